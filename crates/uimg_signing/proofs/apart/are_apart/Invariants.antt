use Rattle.std.proofs.Common.{◌≡◌, ◌+◌, ◌-◌, ◌≤◌, length, drop}
use Rattle.std.specs.Int.{from_bool}
use Rattle.uimg_blob_reading.specs.{Grammar.Siblings, Indexed.IsIndexed, Rows.table}
use Rattle.uimg_signing.specs.{Apart.{count_apart, is_apart}, Sums.sum_from}
use Rattle.uimg_signing.proofs.apart.are_apart.Given as goal

-- the nodes from this one on are left to count
abbrev pub invariant-loop-node : goal.invariant-loop-node
invariant-loop-node g l = record {
  few : l.found ≤ l.node;
  left : (t : Siblings) → IsIndexed t l.blob l.room.entries →
      l.found + sum_from (λ i row. from_bool (is_apart l.marks (table t) row)) l.node (drop l.node (table t)) ≡ count_apart l.marks (table t);
}

abbrev pub decreases-loop-node : goal.decreases-loop-node
decreases-loop-node g l = length l.room.entries - l.node
