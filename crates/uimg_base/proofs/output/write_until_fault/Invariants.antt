use Rattle.std.{proofs.Common.{◌≤◌, ◌-◌, length, take}, specs.Io.KnownBytes.Appends}
use Rattle.uimg_base.proofs.output.write_until_fault.Given as goal

-- the bytes below `at` were written
abbrev pub invariant-loop-at : goal.invariant-loop-at
invariant-loop-at g l = record {
  bound : l.at ≤ length l.bytes;
  prefix : Appends (g.W.Write.contents l.fn.writer) (g.W.Write.contents l.writer) (take l.at l.bytes);
}

abbrev pub decreases-loop-at : goal.decreases-loop-at
decreases-loop-at g l = length l.bytes - l.at
