use Rattle.std.proofs.Common.{◌++◌, ◌∙◌, List, ap, codes, sym, true≢false}
use Rattle.uimg_unpacking.specs.Contents.{Files, is_in}
use Rattle.uimg_unpacking.specs.Staged.{names_of}
use Rattle.uimg_unpacking.specs.declared.staged_file.StagedFile.{StagedFile}
use Rattle.uimg_unpacking.specs.Places.{terms_of}
use Rattle.uimg_unpacking.proofs.Placing.{naming_more}
use Rattle.uimg_unpacking.proofs.staging.Staging.remove_outdated.Goals as goal

pub returns-clause-leaves : goal.returns-clause-leaves
returns-clause-leaves g c = λ start name is other.
    let it = c.args.self.now in
    ap (λ (x : Files). x (it.folder.path.now ++ codes "/" ++ name)) (c.sync.ensures.same start)
    ∙ c.remove_all_old.ensures.leaves start name is (ap (λ (fs : List StagedFile). is_in name (names_of fs)) c.as_slice-outdated.ensures.value ∙ other)

pub invariant_of-self : goal.invariant_of-self
invariant_of-self g c =
    let it = c.args.self.now in
    record {
      made_inside = it.made_inside;
      files_inside = it.files_inside;
      created_inside = it.created_inside;
      outdated_inside = it.outdated_inside;
      named = it.named;
      agreed = it.agreed;
      obeys = naming_more (terms_of it.folder) it.is_naming g.M.Task.before (g.W.World.trace it.world.now) (g.W.World.trace c.remove_all_old.new.world) c.requires c.remove_all_old.ensures.within it.obeys;
      numbered = it.numbered;
      none = λ is. absurd (true≢false (sym c.requires ∙ is));
    }
