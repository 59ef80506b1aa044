-- The grammar reads the tokens of a tree as that tree.
use Rattle.std.proofs.Common.{◌≡◌, ◌≤◌, ℕ, zero, suc, ◌+◌, List, [], ◌∷◌, length, map, Ok, refl, arith}
use Rattle.uimg_blob_reading.specs.Tokens.{Token, end_node, last}
use Rattle.uimg_blob_reading.specs.Grammar.{properties, children, root, without_nops}
use Rattle.uimg_blob_reading.specs.Plain.{Named, Nodes, no_node, a_node, unplaced, unplaced_property}
use Rattle.uimg_blob_writing.proofs.Spelling.{placed_properties, placed, past_name, past_property, past_properties, past, spelled_properties, spelled, count}

-- properties are read up to a token that is none
properties-spelled : (at : ℕ) (own : List Named) (ts : List Token) → properties ts ≡ Ok ([], ts) → properties (spelled_properties at own ts) ≡ Ok (placed_properties at own, ts)
unfolding properties spelled_properties placed_properties
properties-spelled at [] ts stop = stop
properties-spelled at (p ∷ own) ts stop = rw (properties-spelled (past_property at p) own ts stop) refl

-- nodes and the end of the node around them begin with no property
no_property : (at : ℕ) (t : Nodes) (e : ℕ) (ts : List Token) → properties (spelled at t (end_node e ∷ ts)) ≡ Ok ([], spelled at t (end_node e ∷ ts))
unfolding properties spelled
no_property at no_node e ts = refl
no_property at (a_node name own below after) e ts = refl

-- children are read up to the end of the node around them
pub children-spelled : (n at : ℕ) (t : Nodes) (e : ℕ) (ts : List Token) → count t ≤ n → children n (spelled at t (end_node e ∷ ts)) ≡ Ok (placed at t, end_node e ∷ ts)
unfolding children spelled placed count
children-spelled zero at no_node e ts h = refl
children-spelled (suc n) at no_node e ts h = refl
children-spelled zero at (a_node name own below after) e ts h = absurd (omega (arith, h))
children-spelled (suc n) at (a_node name own below after) e ts h =
    let at1 = past_name at name in
    let at2 = past_properties at1 own in
    let at3 = past at2 below in
    let others = spelled (at3 + 4) after (end_node e ∷ ts) in
    let own_read = properties-spelled at1 own (spelled at2 below (end_node at3 ∷ others)) (no_property at2 below at3 others) in
    let below_read = children-spelled n at2 below at3 others (omega (arith, h)) in
    let after_read = children-spelled n (at3 + 4) after e ts (omega (arith, h)) in
    rw own_read (rw below_read (rw after_read refl))

-- there are no more nodes than tokens
length-spelled_properties : (at : ℕ) (own : List Named) (ts : List Token) → length ts ≤ length (spelled_properties at own ts)
unfolding spelled_properties
length-spelled_properties at [] ts = omega arith
length-spelled_properties at (p ∷ own) ts = omega (arith, length-spelled_properties (past_property at p) own ts)

count-spelled : (at : ℕ) (t : Nodes) (ts : List Token) → count t + length ts ≤ length (spelled at t ts)
unfolding spelled count
count-spelled at no_node ts = omega arith
count-spelled at (a_node name own below after) ts =
    let at1 = past_name at name in
    let at2 = past_properties at1 own in
    let at3 = past at2 below in
    let others = spelled (at3 + 4) after ts in
    omega (arith, length-spelled_properties at1 own (spelled at2 below (end_node at3 ∷ others)), count-spelled at2 below (end_node at3 ∷ others), count-spelled (at3 + 4) after ts)

-- the root is read up to the end of the tree
pub root-spelled : (at : ℕ) (name : List ℕ) (own : List Named) (below : Nodes) (e : ℕ) → root (spelled at (a_node name own below no_node) (last e ∷ [])) ≡ Ok (placed at (a_node name own below no_node))
unfolding root spelled placed
root-spelled at name own below e =
    let at1 = past_name at name in
    let at2 = past_properties at1 own in
    let at3 = past at2 below in
    let ts = spelled_properties at1 own (spelled at2 below (end_node at3 ∷ last e ∷ [])) in
    let own_read = properties-spelled at1 own (spelled at2 below (end_node at3 ∷ last e ∷ [])) (no_property at2 below at3 (last e ∷ [])) in
    let below_read = children-spelled (length ts) at2 below at3 (last e ∷ [])
    (omega (arith, length-spelled_properties at1 own (spelled at2 below (end_node at3 ∷ last e ∷ [])), count-spelled at2 below (end_node at3 ∷ last e ∷ []))) in
    rw own_read (rw below_read refl)

-- no token of a tree is without meaning
without_nops-properties : (at : ℕ) (own : List Named) (ts : List Token) → without_nops (spelled_properties at own ts) ≡ spelled_properties at own (without_nops ts)
unfolding without_nops spelled_properties
without_nops-properties at [] ts = refl
without_nops-properties at (p ∷ own) ts = rw (without_nops-properties (past_property at p) own ts) refl

pub without_nops-spelled : (at : ℕ) (t : Nodes) (ts : List Token) → without_nops (spelled at t ts) ≡ spelled at t (without_nops ts)
unfolding without_nops spelled
without_nops-spelled at no_node ts = refl
without_nops-spelled at (a_node name own below after) ts =
    let at1 = past_name at name in
    let at2 = past_properties at1 own in
    let at3 = past at2 below in
    let others = spelled (at3 + 4) after ts in
    rw (without_nops-properties at1 own (spelled at2 below (end_node at3 ∷ others)))
    (rw (without_nops-spelled at2 below (end_node at3 ∷ others))
    (rw (without_nops-spelled (at3 + 4) after ts) refl))

-- places are all that is added
unplaced-properties : (at : ℕ) (own : List Named) → map unplaced_property (placed_properties at own) ≡ own
unfolding placed_properties
unplaced-properties at [] = refl
unplaced-properties at (p ∷ own) = rw (unplaced-properties (past_property at p) own) refl

pub unplaced-placed : (at : ℕ) (t : Nodes) → unplaced (placed at t) ≡ t
unfolding placed
unplaced-placed at no_node = refl
unplaced-placed at (a_node name own below after) =
    let at1 = past_name at name in
    let at2 = past_properties at1 own in
    let at3 = past at2 below in
    rw (unplaced-properties at1 own, unplaced-placed at2 below, unplaced-placed (at3 + 4) after) refl
