-- Nodes one by one.
use Rattle.std.proofs.Common.{◌≡◌, ◌<◌, ◌++◌, ℕ, zero, suc, List, [], ◌∷◌, length, get_or, refl, ap, ◌∙◌, append_assoc, arith}
use Rattle.std.specs.List.{flat_map}
use Rattle.uimg_blob_reading.specs.Plain.{AllValues}
use Rattle.uimg_blob_writing.specs.{declared.tree.Node.Node, Content.{Content, bytes, count}}
use Rattle.uimg_blob_writing.specs.{Encoding.word, Trees.{siblings, node_of}}
use Rattle.uimg_blob_writing.specs.Pieces.{begin_bytes, property_pieces, nodes_pieces}

-- the pieces of nodes are those of each
pub siblings-pieces : {A : Type 0} (names : List (List ℕ)) (ns : List (Node A)) → flat_map (λ n. nodes_pieces names (node_of n)) ns ≡ nodes_pieces names (siblings ns)
unfolding nodes_pieces
siblings-pieces names [] = refl
siblings-pieces names (n ∷ ns) =
    let own = flat_map (property_pieces names) n.props in
    let below = nodes_pieces names n.children in
    let after = nodes_pieces names (siblings ns) in
    let end : List Content = bytes (word 2) ∷ [] in
    let begin = bytes (begin_bytes n.name) in
    ap (λ (w : List Content). begin ∷ ((own ++ (below ++ end)) ++ w)) (siblings-pieces names ns)
    ∙ ap (λ (w : List Content). begin ∷ w) (append_assoc own (below ++ end) after ∙ ap (λ (w : List Content). own ++ w) (append_assoc below end after))

-- a fact on the values of all nodes, for one of them
pub values-at : {A : Type 0} (P : Content → Type 0) (ns : List (Node A)) (i : ℕ) (d : Node A) → i < length ns → AllValues P (siblings ns) → AllValues P (node_of (get_or ns i d))
values-at P [] i d h all = absurd (omega (arith, h))
values-at P (n ∷ ns) zero d h all = (all.0, all.1, tt)
values-at P (n ∷ ns) (suc i) d h all = values-at P ns i d (omega (arith, h)) all.2

-- what is below a node is less than the nodes beside it
pub count-at : {A : Type 0} (ns : List (Node A)) (i : ℕ) (d : Node A) → i < length ns → suc (count (get_or ns i d).children) < count (siblings ns)
count-at [] i d h = absurd (omega (arith, h))
count-at (n ∷ ns) zero d h = omega arith
count-at (n ∷ ns) (suc i) d h = let below = count-at ns i d (omega (arith, h)) in omega (arith, below)
