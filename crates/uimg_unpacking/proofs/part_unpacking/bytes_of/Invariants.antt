use Rattle.uimg_base.specs.Device.{SameDevice}
use Rattle.uimg_unpacking.proofs.part_unpacking.bytes_of.Given as goal

-- the source is unchanged
abbrev pub invariant-loop-number : goal.invariant-loop-number
invariant-loop-number g l = SameDevice (g.S.Source.device l.fn.source) (g.S.Source.device l.source)
