use Rattle.std.proofs.Common.{subst, false}
use Rattle.uimg_unpacking.specs.Places.{Obeys, Terms}
use Rattle.uimg_unpacking.proofs.Placing.{◌◁◌}
use Rattle.uimg_unpacking.proofs.staging.Staging.end.Goals as goal

pub returns-clause-obeys : goal.returns-clause-obeys
returns-clause-obeys g c =
    let it = c.args.self in
    subst (λ (t : Terms). Obeys t it.is_naming g.M.Task.before (g.W.World.trace c.clear.new.world)) it.agreed (c.clear.ensures it.is_naming ◁ it.obeys)

pub returns-clause-quiet : goal.returns-clause-quiet
returns-clause-quiet g c =
    let it = c.args.self in
    subst (λ (t : Terms). Obeys t false (g.W.World.trace it.world.now) (g.W.World.trace c.clear.new.world)) it.agreed (c.clear.ensures false)
