use Rattle.uimg_tool.proofs.DrawingLaws.{drawn_for}
use Rattle.uimg_tool.proofs.maps.map_image.Goals as goal

pub returns-in-Some-clause-asks : goal.returns-in-Some-clause-asks
returns-in-Some-clause-asks g c = drawn_for c.args.request.now _ c.in-Some.path _ _ c.in-Some.is c.draw_map.ensures.asks
