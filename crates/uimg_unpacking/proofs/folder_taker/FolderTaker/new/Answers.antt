use Rattle.std.proofs.Common.{◌∙◌, ℕ, List, sym, subst, is_none, ap₂}
use Rattle.uimg_unpacking.specs.{FileNames.is_among, Given.{AreNamed, AreWhole, newest, noted_takes}, Limiting.exceeded, Staged.{names_of, uses_names}}
use Rattle.uimg_unpacking.specs.declared.staged_file.StagedFile.{StagedFile}
use Rattle.uimg_unpacking.proofs.{GivenLaws.{none_named, none_whole}, LimitLaws.none_exceeds, NameUses.none_used}
use Rattle.uimg_unpacking.proofs.folder_taker.FolderTaker.new.Goals as goal

pub invariant_of-result : goal.invariant_of-result
invariant_of-result g c =
    let it = c.new.result in
    let names = c.new-4.result.named.names in
    let image = newest c.new-5.result.names in
    let none = c.new.ensures.none in
    record {
      unnamed = c.new.ensures.unnamed;
      whole = subst (λ (ns : List (List ℕ)). AreWhole it.files.items it.is_writing (noted_takes ns)) (sym c.new-6.ensures) (none_whole it.files.items it.is_writing none.0 none.2);
      named = λ yes. subst (λ (ns : List (List ℕ)). AreNamed it.files.items it.is_writing (noted_takes ns) names image) (sym c.new-6.ensures) (none_named it.files.items it.is_writing names image none.0 none.2 c.new-4.ensures);
      apart = λ yes. ap₂ (λ (files outdated : List StagedFile). uses_names (is_among names) (names_of files) (names_of outdated)) none.0 none.1 ∙ none_used (is_among names);
      limits = c.new-7.ensures.limits ∙ c.requires.limits;
      fits = λ yes. ap₂ (λ l cs. is_none (exceeded l cs)) c.new-7.ensures.limits c.new-7.ensures.noted ∙ none_exceeds c.args.asked.now.limits;
    }
