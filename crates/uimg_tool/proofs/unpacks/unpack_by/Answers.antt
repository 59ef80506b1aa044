use Rattle.std.proofs.Common.{sym, ◌∙◌, true≢false}
use Rattle.uimg_tool.specs.Statuses.{closing_status}
use Rattle.uimg_tool.proofs.LeaveLaws.{left_cleaned}
use Rattle.uimg_tool.proofs.unpacks.unpack_by.Goals as goal

-- a folder that is not cleaned is no trouble
pub returns-in-Err-default-clause-tells : goal.returns-in-Err-default-clause-tells
returns-in-Err-default-clause-tells g c = λ honest kept. absurd (true≢false (sym c.in-Err-default.ensures.done ∙ kept))

pub returns-in-Err-default-clause-kept : goal.returns-in-Err-default-clause-kept
returns-in-Err-default-clause-kept g c = λ honest kept. absurd (true≢false (sym c.in-Err-default.ensures.done ∙ kept))

pub returns-in-Err-default-clause-left : goal.returns-in-Err-default-clause-left
returns-in-Err-default-clause-left g c = λ kept. absurd (true≢false (sym c.in-Err-default.ensures.done ∙ kept))

pub returns-in-Ok-Some-clause-left : goal.returns-in-Ok-Some-clause-left
returns-in-Ok-Some-clause-left g c = λ kept.
    left_cleaned c.args.request.now (closing_status c.unpack_and_tell.result) (g.D.World.trace c.args.world.now) (g.D.World.trace c.clean_if.new.world) (g.D.World.trace c.unpack_and_tell.new.world) (c.clean_if.ensures.unasked kept) c.unpack_and_tell.ensures.left
