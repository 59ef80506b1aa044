use Rattle.uimg_tool.proofs.DrawingLaws.{looks_as}
use Rattle.uimg_tool.specs.Drawing.{forced, free, taken}
use Rattle.uimg_tool.proofs.pictures.draw_unless_taken.Goals as goal

pub returns-then-request-clause-asks : goal.returns-then-request-clause-asks
returns-then-request-clause-asks g c = forced c.if-request.true c.draw.ensures.asks

pub returns-then-is_taken-clause-asks : goal.returns-then-is_taken-clause-asks
returns-then-is_taken-clause-asks g c = taken c.if-request.false (looks_as c.args.path.now c.is_taken.result _ _ _ c.if-is_taken.true c.is_taken.ensures)

pub returns-clause-asks : goal.returns-clause-asks
returns-clause-asks g c =
    free (g.D.World.trace c.is_taken.new.world) c.if-request.false (looks_as c.args.path.now c.is_taken.result _ _ _ c.if-is_taken.false c.is_taken.ensures) c.draw-2.ensures.asks
