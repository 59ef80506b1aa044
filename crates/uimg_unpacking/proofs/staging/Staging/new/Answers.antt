use Rattle.std.proofs.Common.{rules, refl, ◌∙◌, ap, None, false, List}
use Rattle.uimg_unpacking.specs.Places.{terms_of}
use Rattle.uimg_unpacking.specs.Staged.{are_numbered_in}
use Rattle.uimg_unpacking.specs.declared.staged_file.StagedFile.{StagedFile}
use Rattle.uimg_unpacking.proofs.Placing.{no_more}
use Rattle.uimg_unpacking.proofs.StagedLaws.{none_unmade, numbered_none}
use Rattle.uimg_unpacking.proofs.staging.Staging.new.Goals as goal

pub invariant_of-result : goal.invariant_of-result
invariant_of-result g c = record {
  made_inside = refl;
  files_inside = search rules;
  created_inside = search rules;
  outdated_inside = search rules;
  named = c.requires.named;
  agreed = c.requires.agreed;
  obeys = no_more (terms_of c.args.folder) false _ _ c.requires.before;
  numbered = ap (λ (fs : List StagedFile). are_numbered_in None fs) c.new.ensures.items ∙ numbered_none;
  none = λ is. none_unmade None (g.W.World.trace c.args.world.now) refl;
}
