use Rattle.std.proofs.Common.{◌≡◌, ◌-◌, length, drop}
use Rattle.std.specs.List.{list_any}
use Rattle.uimg_blob_reading.specs.{Grammar.Siblings, Indexed.IsIndexed, Rows.table}
use Rattle.uimg_signing.specs.Hashed.{has_hash, is_hash_of}
use Rattle.uimg_signing.proofs.hashed.has_hash.Given as goal

-- the nodes from this one on decide
abbrev pub invariant-loop-node : goal.invariant-loop-node
invariant-loop-node g l = (t : Siblings) → IsIndexed t l.blob l.room.entries → list_any (is_hash_of l.image) (drop l.node (table t)) ≡ has_hash (table t) l.image

abbrev pub decreases-loop-node : goal.decreases-loop-node
decreases-loop-node g l = length l.room.entries - l.node
