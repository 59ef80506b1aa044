-- What is below a node of a list is smaller than the list.
use Rattle.std.{specs.Prelude.{◌≡◌, ◌≤◌, ◌+◌, max, List, [], ◌∷◌, refl}, proofs.Common.arith}
use Rattle.std.specs.declared.alloc.Allocator.{Ghosts}
use denote.Param.Weighed.{most}
use Rattle.uimg_blob_writing.specs.declared.tree.{Node.Node, Nodes.TheDeep.deep-Node}
use Rattle.uimg_blob_writing.specs.{Content.count, Trees.siblings}

-- the measure of a node is that of its children and one more
pub deep-node : (A : Type 0) (g : Ghosts A) (n : Node A)
    → deep-Node A g n ≡ max (count n.children + 1) 0
deep-node A g n = refl

pub falls : (A : Type 0) (g : Ghosts A) (ns : List (Node A))
    → max (most (λ n. deep-Node A g n) ns) 0 ≤ count (siblings ns)
falls A g [] = omega arith
falls A g (n ∷ ns) = omega (arith, falls A g ns, deep-node A g n)
