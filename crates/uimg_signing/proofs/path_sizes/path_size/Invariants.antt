use Rattle.std.proofs.Common.{◌≡◌, ◌≤◌, ◌+◌, ◌*◌}
use Rattle.uimg_blob_reading.specs.{Grammar.Siblings, Indexed.IsIndexed, Rows.table}
use Rattle.uimg_signing.specs.PathSizes.{climb_size, path_size}
use Rattle.uimg_signing.proofs.path_sizes.path_size.Given as goal

-- what is left makes the sum whole; none of it saturates
abbrev pub invariant-loop-left : goal.invariant-loop-left
invariant-loop-left g l = (t : Siblings) → IsIndexed t l.blob l.room.entries →
    (l.size + climb_size l.left (table t) l.next ≡ path_size (table t) l.fn.node) × (l.size + l.left * 0x200000000 ≤ 0x19000000000)

abbrev pub decreases-loop-left : goal.decreases-loop-left
decreases-loop-left g l = l.left
