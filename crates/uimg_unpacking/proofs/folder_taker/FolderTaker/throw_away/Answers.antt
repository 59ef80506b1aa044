use Rattle.std.proofs.Common.{rules, ◌≡◌, ◌∙◌, [], List, true, is_ok, ap₂, subst, sym}
use Rattle.uimg_fit_checking.specs.Unpacking.{Take, as_bytes, refused}
use Rattle.uimg_fit_checking.specs.declared.checking.Finding.TheVariants as finding
use Rattle.uimg_unpacking.specs.{FileNames.is_among, Given.{AreNamed, AreWhole, MayGive, newest, noted_takes, takes_given}, Staged.{names_of, staged}}
use Rattle.uimg_unpacking.proofs.GivenLaws.{given_refused, noted_refused, refused_named, refused_whole}
use Rattle.uimg_unpacking.proofs.NameUses.{uses_fewer}
use Rattle.uimg_unpacking.proofs.folder_taker.FolderTaker.throw_away.Goals as goal

pub invariant_of-self : goal.invariant_of-self
invariant_of-self g c =
    let it = c.args.self.now in
    let old = it.staging in
    let now = c.refuse_last.new.self in
    let image = as_bytes c.args.name.now in
    let noted = noted_refused it.given.names c.note.new.self.names c.note-2.new.self.names image c.bytes.result.now c.bytes.ensures c.note.ensures c.note-2.ensures in
    let writing : old.is_writing ≡ true = search rules in
    let same = c.refuse_last.ensures in
    record {
      unnamed = same.naming ∙ it.unnamed;
      whole = subst (λ (ts : List Take). AreWhole now.files.items now.is_writing ts) (sym noted) (refused_whole old.files.items now.files.items old.is_writing now.is_writing (noted_takes it.given.names) image (finding.Weak []) same.complete it.whole);
      named = λ no. subst (λ (ts : List Take). AreNamed now.files.items now.is_writing ts it.taken.named.names (newest it.begun.names)) (sym noted)
          (refused_named old.files.items now.files.items old.is_writing now.is_writing (noted_takes it.given.names) it.taken.named.names (newest it.begun.names) image (finding.Weak []) writing same.writing c.requires same.complete (it.named no));
      apart = λ no. uses_fewer (is_among it.taken.named.names) (names_of old.files.items) (names_of now.files.items) (names_of old.outdated.items) (names_of now.outdated.items) same.names (it.apart no);
      limits = it.limits;
      fits = it.fits;
    }

pub invariant_of-self-2 : goal.invariant_of-self-2
invariant_of-self-2 g c =
    let it = c.args.self.now in
    let old = it.staging in
    let now = c.refuse_last.new.self in
    let image = as_bytes c.args.name.now in
    let noted = noted_refused it.given.names c.note.new.self.names c.note-2.new.self.names image c.bytes.result.now c.bytes.ensures c.note.ensures c.note-2.ensures in
    let writing : old.is_writing ≡ true = search rules in
    let same = c.refuse_last.ensures in
    record {
      unnamed = same.naming ∙ it.unnamed;
      whole = subst (λ (ts : List Take). AreWhole now.files.items now.is_writing ts) (sym noted) (refused_whole old.files.items now.files.items old.is_writing now.is_writing (noted_takes it.given.names) image (finding.Weak []) same.complete it.whole);
      named = λ no. subst (λ (ts : List Take). AreNamed now.files.items now.is_writing ts it.taken.named.names (newest it.begun.names)) (sym noted)
          (refused_named old.files.items now.files.items old.is_writing now.is_writing (noted_takes it.given.names) it.taken.named.names (newest it.begun.names) image (finding.Weak []) writing same.writing c.requires same.complete (it.named no));
      apart = λ no. uses_fewer (is_among it.taken.named.names) (names_of old.files.items) (names_of now.files.items) (names_of old.outdated.items) (names_of now.outdated.items) same.names (it.apart no);
      limits = it.limits;
      fits = it.fits;
    }

pub returns-in_err-refuse_last-clause-given : goal.returns-in_err-refuse_last-clause-given
returns-in_err-refuse_last-clause-given g c =
    let it = c.args.self.now in
    let old = it.staging in
    let now = c.refuse_last.new.self in
    let image = as_bytes c.args.name.now in
    let noted = noted_refused it.given.names c.note.new.self.names c.note-2.new.self.names image c.bytes.result.now c.bytes.ensures c.note.ensures c.note-2.ensures in
    let t = g.W.World.trace in
    let before = staged (t old.world.now) old.files.items old.is_writing in
    let after = staged (t now.world.now) now.files.items now.is_writing in
    given_refused (is_ok c.from_residual.result) (noted_takes it.given.names) (noted_takes c.note-2.new.self.names) before after image (finding.Weak []) c.refuse_last.ensures.staged noted

pub returns-clause-given : goal.returns-clause-given
returns-clause-given g c =
    let it = c.args.self.now in
    let old = it.staging in
    let now = c.refuse_last.new.self in
    let image = as_bytes c.args.name.now in
    let noted = noted_refused it.given.names c.note.new.self.names c.note-2.new.self.names image c.bytes.result.now c.bytes.ensures c.note.ensures c.note-2.ensures in
    let t = g.W.World.trace in
    let before = staged (t old.world.now) old.files.items old.is_writing in
    let after = staged (t now.world.now) now.files.items now.is_writing in
    let told = given_refused (is_ok c.add.result) (noted_takes it.given.names) (noted_takes c.note-2.new.self.names) before after image (finding.Weak []) c.refuse_last.ensures.staged noted in
    let same = ap₂ (λ gs s. takes_given gs.names (staged (t s.world.now) s.files.items s.is_writing)) c.add.ensures.given c.add.ensures.staging in
    subst (λ (ts : List Take). MayGive (is_ok c.add.result) (refused image (finding.Weak [])) (takes_given it.given.names before) ts) (sym same) told
