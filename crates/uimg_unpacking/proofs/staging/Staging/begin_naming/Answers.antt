use Rattle.std.proofs.Common.{true≢false}
use Rattle.uimg_unpacking.specs.Places.{terms_of}
use Rattle.uimg_unpacking.proofs.Placing.{obeys_naming}
use Rattle.uimg_unpacking.proofs.staging.Staging.begin_naming.Goals as goal

pub invariant_of-self : goal.invariant_of-self
invariant_of-self g c =
    let it = c.args.self.now in
    record {
      made_inside = c.args.self.now.made_inside;
      files_inside = c.args.self.now.files_inside;
      created_inside = c.args.self.now.created_inside;
      outdated_inside = c.args.self.now.outdated_inside;
      named = it.named;
      agreed = it.agreed;
      obeys = obeys_naming (terms_of it.folder) it.is_naming g.M.Task.before (g.W.World.trace it.world.now) it.obeys;
      numbered = c.args.self.now.numbered;
      none = λ is. absurd (true≢false is);
    }
