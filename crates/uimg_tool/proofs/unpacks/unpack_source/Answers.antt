use Rattle.std.proofs.Common.{refl}
use Rattle.uimg_tool.proofs.LeaveLaws.{left_ended}
use Rattle.uimg_tool.proofs.unpacks.unpack_source.Goals as goal

pub returns-in-Ok-true-clause-left : goal.returns-in-Ok-true-clause-left
returns-in-Ok-true-clause-left g c = left_ended c.args.asked.now c.unpack.result c.from.result (g.D.World.trace c.args.world.now) (g.D.World.trace c.unpack.new.world) c.from.ensures c.unpack.ensures.back

pub returns-in-Ok-false-clause-left : goal.returns-in-Ok-false-clause-left
returns-in-Ok-false-clause-left g c = left_ended c.args.asked.now c.unpack_parts.result c.from-in-Ok-false.result (g.D.World.trace c.args.world.now) (g.D.World.trace c.unpack_parts.new.world) c.from-in-Ok-false.ensures (λ good. c.unpack_parts.ensures.back)

pub returns-in-Err-clause-left : goal.returns-in-Err-clause-left
returns-in-Err-clause-left g c = λ good refused start told p own. refl
