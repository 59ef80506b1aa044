use Rattle.std.proofs.Common.{◌∙◌, List, true, ap₂, subst, sym}
use Rattle.uimg_fit_checking.specs.Unpacking.{Take, as_bytes}
use Rattle.uimg_unpacking.specs.{FileNames.is_among, Given.{AreNamed, AreWhole, newest, noted_takes}, Staged.{names_of, staged, uses_names}}
use Rattle.uimg_unpacking.proofs.GivenLaws.{as_many, given_kept, kept_named, kept_whole, noted_kept}
use Rattle.uimg_unpacking.proofs.folder_taker.FolderTaker.complete.Goals as goal

pub invariant_of-self-2 : goal.invariant_of-self-2
invariant_of-self-2 g c =
    let it = c.args.self.now in
    let old = it.staging in
    let now = c.complete.new.self in
    let image = as_bytes c.args.name.now in
    let noted = noted_kept it.given.names c.note.new.self.names c.note-2.new.self.names image c.bytes.result.now c.bytes.ensures c.note.ensures c.note-2.ensures in
    let ok = c.in_ok-size.ensures in
    record {
      unnamed = c.complete.ensures.naming ∙ it.unnamed;
      whole = subst (λ (ts : List Take). AreWhole now.files.items now.is_writing ts) (sym noted) (kept_whole old.files.items now.files.items old.is_writing now.is_writing (noted_takes it.given.names) image ok.complete it.whole);
      named = λ no. subst (λ (ts : List Take). AreNamed now.files.items now.is_writing ts it.taken.named.names (newest it.begun.names)) (sym noted)
          (kept_named old.files.items now.files.items old.is_writing now.is_writing (noted_takes it.given.names) it.taken.named.names (newest it.begun.names) image ok.writing.0 ok.writing.1 c.requires ok.complete (it.named no));
      apart = λ no. ap₂ (λ fs os. uses_names (is_among it.taken.named.names) (names_of fs.items) (names_of os.items)) c.complete.ensures.files c.complete.ensures.outdated ∙ it.apart no;
      limits = it.limits;
      fits = it.fits;
    }

pub returns-clause-given : goal.returns-clause-given
returns-clause-given g c = λ knows bytes is.
    let it = c.args.self.now in
    let old = it.staging in
    let now = c.complete.new.self in
    let image = as_bytes c.args.name.now in
    let noted = noted_kept it.given.names c.note.new.self.names c.note-2.new.self.names image c.bytes.result.now c.bytes.ensures c.note.ensures c.note-2.ensures in
    let t = g.W.World.trace in
    let before = staged (t old.world.now) old.files.items old.is_writing in
    let after = staged (t now.world.now) now.files.items now.is_writing in
    given_kept true (noted_takes it.given.names) (noted_takes c.note-2.new.self.names) before after image bytes (as_many (t old.world.now) old.files.items old.is_writing (noted_takes it.given.names) it.whole) (c.in_ok-size.ensures.staged knows bytes is) noted
