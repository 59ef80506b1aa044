use Rattle.uimg_tool.proofs.{LeaveLaws.left_told, UnpackTells.image_told}
use Rattle.uimg_tool.specs.{FaultTexts.told_of_complaint, Statuses.closing_status}
use Rattle.uimg_tool.proofs.unpacks.unpack_and_tell.Goals as goal

pub returns-clause-tells : goal.returns-clause-tells
returns-clause-tells g c = λ honest.
    image_told (g.D.World.map c.args.world.now) c.args.request.now c.args.terms.now.required c.args.path c.unpack_at-ending.result (closing_status c.end_of.result) (told_of_complaint c.end_of.result)
    (c.unpack_at-ending.ensures.ended honest) c.end_of.ensures.status c.end_of.ensures.told

pub returns-clause-left : goal.returns-clause-left
returns-clause-left g c =
    left_told c.args.request.now c.unpack_at-ending.result (closing_status c.end_of.result) (g.D.World.trace c.args.world.now) (g.D.World.trace c.unpack_at-ending.new.world) (g.D.World.trace c.end_of.new.world)
    c.unpack_at-ending.ensures.left c.end_of.ensures.status c.end_of.ensures.silent
