use Rattle.std.proofs.Common.{◌≡◌, suc, take}
use Rattle.uimg_blob_writing.specs.Content.{count}
use Rattle.uimg_blob_writing.proofs.copying.+copy_this.Given as goal

abbrev pub decreases-copy_this : goal.decreases-copy_this
decreases-copy_this g l = suc (count l.this.node.now.children)

-- the nodes before the index were copied
abbrev pub invariant-loop-node : goal.invariant-loop-node
invariant-loop-node g l = l.copies.items ≡ take l.node-index l.node-items
