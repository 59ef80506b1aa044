use Rattle.std.proofs.Common.{rules}
use Rattle.uimg_tool.proofs.DrawingLaws.{drawn_apart}
use Rattle.uimg_tool.proofs.pictures.draw_map.Goals as goal

pub returns-in-Ok-draw_unless_taken-clause-asks : goal.returns-in-Ok-draw_unless_taken-clause-asks
returns-in-Ok-draw_unless_taken-clause-asks g c =
    drawn_apart c.args.request.now.image.now c.args.path.now c.args.request.now.is_forced c.is_same_file.result _ (g.D.World.trace c.open_image.new.world) (g.D.World.trace c.is_same_file.new.world) _
    (search rules) c.is_same_file.ensures.compares c.if-is_same_file.false c.draw_unless_taken.ensures.asks

pub returns-clause-asks : goal.returns-clause-asks
returns-clause-asks g c =
    drawn_apart c.args.request.now.image.now c.args.path.now c.args.request.now.is_forced c.is_same_file.result _ (g.D.World.trace c.open_image.new.world) (g.D.World.trace c.is_same_file.new.world) _
    (search rules) c.is_same_file.ensures.compares c.if-is_same_file.false c.draw_unless_taken.ensures.asks
