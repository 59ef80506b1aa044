use Rattle.std.proofs.Common.{◌∙◌}
use Rattle.uimg_unpacking.proofs.part_unpacking.bytes_of.Goals as goal

pub returns-in_err-size : goal.returns-in_err-size
returns-in_err-size g c =
    let a = c.loop-number.invariant in
    let b = c.size_at.ensures.uses.same in
    record { bytes = b.bytes ∙ a.bytes; honest = b.honest ∙ a.honest }
