use Rattle.std.proofs.Common.{◌≤◌, ◌-◌, false, replicate}
use Rattle.uimg_base.specs.Writing.{Writes}
use Rattle.uimg_blob_writing.proofs.alignment.put_zeros.Given as goal

-- all but those that are left were written
abbrev pub invariant-loop-left : goal.invariant-loop-left
invariant-loop-left g l = record {
  few : l.left ≤ l.fn.count;
  writes : Writes false l.fn.out l.out (replicate (l.fn.count - l.left) 0);
}

abbrev pub decreases-loop-left : goal.decreases-loop-left
decreases-loop-left g l = l.left
