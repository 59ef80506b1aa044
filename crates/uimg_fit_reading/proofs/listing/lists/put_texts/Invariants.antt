use Rattle.std.proofs.Common.{◌≡◌, ◌≤◌, ◌-◌, length, take}
use Rattle.uimg_base.specs.Sink.{AppendsAll}
use Rattle.uimg_fit_reading.specs.Lists.{emitted, line_after}
use Rattle.uimg_fit_reading.proofs.listing.lists.put_texts.Given as goal

-- the bytes so far were written
abbrev pub invariant-loop-passed : goal.invariant-loop-passed
invariant-loop-passed g l = record {
  bound : l.passed ≤ length l.bytes;
  faults : l.out.faults ≡ l.fn.out.faults;
  line : l.line ≡ line_after l.fn.line (take l.passed l.bytes);
  put : AppendsAll l.fn.out l.out (emitted l.label l.fn.line (take l.passed l.bytes));
}

abbrev pub decreases-loop-passed : goal.decreases-loop-passed
decreases-loop-passed g l = length l.bytes - l.passed
