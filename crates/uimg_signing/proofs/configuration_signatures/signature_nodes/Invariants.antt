use Rattle.std.proofs.Common.{◌≡◌, ◌-◌, ◌++◌, length, drop}
use Rattle.std.specs.List.{All}
use Rattle.uimg_blob_reading.specs.{Grammar.Siblings, Indexed.IsIndexed, Rows.table}
use Rattle.uimg_signing.specs.SignatureNodes.{IsBelow, nodes_from, signature_nodes}
use Rattle.uimg_signing.proofs.configuration_signatures.signature_nodes.Given as goal

-- the nodes below this one were looked at
abbrev pub invariant-loop-node : goal.invariant-loop-node
invariant-loop-node g l = record {
  inside : All (IsBelow (length l.room.entries)) l.nodes.items;
  left : (t : Siblings) → IsIndexed t l.blob l.room.entries → l.nodes.items ++ nodes_from (table t) l.node (drop l.node (table t)) ≡ signature_nodes (table t);
}

abbrev pub decreases-loop-node : goal.decreases-loop-node
decreases-loop-node g l = length l.room.entries - l.node
