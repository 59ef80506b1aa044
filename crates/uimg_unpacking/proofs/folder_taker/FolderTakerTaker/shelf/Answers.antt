use Rattle.std.proofs.Common.{◌≡◌, ◌∙◌, ℕ, List, length, sym, subst, ap, string_bytes, true, is_ok, Vec}
use Rattle.std.specs.declared.alloc.Global.{Global}
use Rattle.uimg_fit_checking.specs.Unpacking.{as_bytes}
use Rattle.uimg_unpacking.specs.{Limiting.claims_by, FileNames.is_among, Given.{AreNamed, newest, noted_takes}, Staged.{names_of, uses_names}}
use Rattle.uimg_unpacking.specs.declared.staged_file.StagedFile.{StagedFile}
use Rattle.uimg_unpacking.proofs.GivenLaws.{among_it, among_more, begun_named, none_kept, on_ok}
use Rattle.uimg_unpacking.proofs.LimitLaws.{fits_kept}
use Rattle.uimg_unpacking.proofs.NameUses.{uses_next}
use Rattle.uimg_unpacking.proofs.folder_taker.FolderTakerTaker.shelf.Goals as goal

pub invariant_of-self : goal.invariant_of-self
invariant_of-self g c =
    let it = c.args.self.now in
    let old = it.staging in
    let now = c.begin-begun.new.self in
    let told = c.begin-begun.ensures in
    let names = it.taken.named.names in
    let new = c.next.new.self.named.names in
    let name = string_bytes c.in-Ok.file in
    let gives = c.in-Ok.ensures in
    let image : newest c.note.new.self.names ≡ as_bytes c.args.name.now = ap newest c.note.ensures ∙ c.bytes.ensures in
    record {
      unnamed = told.naming ∙ it.unnamed;
      whole = ap (λ (ns : List (List ℕ)). length ns) told.complete ∙ it.whole;
      named = λ none.
          let ok = none_kept c.begin-begun.result it.trouble c.kept.new.trouble c.kept.ensures.noted none in
          let writing = on_ok _ c.begin-begun.result ok.0 told.writing in
          subst (λ (i : List ℕ). AreNamed now.files.items now.is_writing (noted_takes it.given.names) new i) (sym image)
          (begun_named old.files.items now.files.items old.is_writing now.is_writing (noted_takes it.given.names) names new (newest it.begun.names) (as_bytes c.args.name.now) name writing.0 writing.1 told.complete writing.2 gives.wanted_is gives.given (it.named ok.1));
      apart = λ none.
          let ok = none_kept c.begin-begun.result it.trouble c.kept.new.trouble c.kept.ensures.noted none in
          subst (λ (o : Vec StagedFile Global). uses_names (is_among new) (names_of now.files.items) (names_of o.items) ≡ true) (sym told.outdated)
          (uses_next (is_among names) (is_among new) (names_of old.files.items) (names_of old.outdated.items) name (is_ok c.begin-begun.result) (names_of now.files.items) (among_more names new name gives.given) gives.is_free (among_it names new name gives.given) told.names (it.apart ok.1));
      limits = it.limits;
      fits = fits_kept c.begin-begun.result it.trouble c.kept.new.trouble it.claims.limits (claims_by it.claims.noted.names) c.kept.ensures.noted it.fits;
    }
