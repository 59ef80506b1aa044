use Rattle.std.proofs.Common.{◌≡◌, map, drop, suc}
use Rattle.uimg_blob_writing.specs.{Encoding.{with_names, with_names_in}, Content.count}
use Rattle.uimg_blob_writing.specs.Trees.{siblings}
use Rattle.uimg_blob_writing.proofs.names.+add_all_names.Given as goal

abbrev pub decreases-add_all_names : goal.decreases-add_all_names
decreases-add_all_names g l = suc (count l.this.node.now.children)

-- what the nodes from the index on add to the names so far is what all add
abbrev pub invariant-loop-node : goal.invariant-loop-node
invariant-loop-node g l =
    with_names_in (map (λ n. n.now) l.names.items) (siblings (drop l.node-index l.node-items))
    ≡ with_names_in (with_names (map (λ n. n.now) l.fn.names.items) l.this.node.now.props) (siblings l.node-items)
