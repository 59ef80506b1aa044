use Rattle.std.proofs.Common.{◌≡◌, drop, suc}
use Rattle.uimg_blob_writing.specs.{Content.count, Trees.siblings, Measured.bad_name}
use Rattle.uimg_blob_writing.proofs.checking.+check_names.Given as goal

abbrev pub decreases-check_names : goal.decreases-check_names
decreases-check_names g l = suc (count l.this.node.now.children)

-- the first bad name stands at the index or later
abbrev pub invariant-loop-node : goal.invariant-loop-node
invariant-loop-node g l = bad_name (siblings (drop l.node-index l.node-items)) ≡ bad_name (siblings l.node-items)
