use Rattle.std.proofs.Common.{sym, ◌∙◌, true≢false}
use Rattle.uimg_unpacking.specs.Places.{terms_of}
use Rattle.uimg_unpacking.proofs.Placing.{naming_more}
use Rattle.uimg_unpacking.proofs.staging.Staging.taken_back.Goals as goal

pub invariant_of-self : goal.invariant_of-self
invariant_of-self g c =
    let it = c.args.self.now in
    record {
      made_inside = it.made_inside;
      files_inside = it.files_inside;
      created_inside = it.created_inside;
      outdated_inside = it.outdated_inside;
      named = it.named;
      agreed = it.agreed;
      obeys = naming_more (terms_of it.folder) it.is_naming g.M.Task.before (g.W.World.trace it.world.now) (g.W.World.trace c.put_back_all-is_back.new.world) c.requires c.put_back_all-is_back.ensures.within it.obeys;
      numbered = it.numbered;
      none = λ is. absurd (true≢false (sym c.requires ∙ is));
    }
