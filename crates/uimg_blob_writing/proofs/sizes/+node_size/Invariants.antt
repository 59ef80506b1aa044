use Rattle.std.proofs.Common.{◌≡◌, ◌+◌, ◌^◌, ◌≤◌, min, drop, suc, length}
use Rattle.uimg_texts.specs.Numbers.{up4}
use Rattle.uimg_blob_writing.specs.{Content.count, Layouts.{properties_size, nodes_size}}
use Rattle.uimg_blob_writing.specs.Trees.{siblings}
use Rattle.uimg_blob_writing.proofs.sizes.+node_size.Given as goal

abbrev pub decreases-node_size : goal.decreases-node_size
decreases-node_size g l = suc (count l.this.node.now.children)

-- the size so far and that of the nodes from the index on are the whole
abbrev pub invariant-loop-node : goal.invariant-loop-node
invariant-loop-node g l = record {
  small : l.size ≤ 2 ^ 36;
  whole : min (l.size + nodes_size (siblings (drop l.node-index l.node-items))) (2 ^ 36)
      ≡ min (8 + up4 (length l.this.node.now.name + 1) + properties_size l.this.node.now.props + nodes_size (siblings l.node-items)) (2 ^ 36);
}
