use Rattle.std.proofs.Common.{◌≡◌, take}
use Rattle.uimg_blob_writing.proofs.copying.copy_nodes.Given as goal

-- the nodes before the index were copied
abbrev pub invariant-loop-node : goal.invariant-loop-node
invariant-loop-node g l = l.copies.items ≡ take l.node-index l.node-items
