-- Each entry's number is that of a node among all nodes.
use Rattle.std.proofs.Common.{◌≡◌, ◌+◌, ◌<◌, ◌≤◌, ℕ, zero, suc, List, [], ◌∷◌, ◌++◌, length, drop, Option, Some, None, refl, ap, sym, ◌∙◌, subst, arith}
use Rattle.std.specs.List.{slice_get}
use Rattle.std.proofs.lemmas.List.{length-append}
use Rattle.std.proofs.Math.Nat.{suc-ne-zero}
use Rattle.uimg_blob_reading.specs.declared.nodes.Blob.{Blob}
use Rattle.uimg_blob_reading.specs.Grammar.{Siblings, none, node}
use Rattle.uimg_blob_reading.specs.Indexed.{IsIndexed}
use Rattle.uimg_blob_reading.specs.Roles.{Level, top, role_at, level_in, level_after}
use Rattle.uimg_blob_reading.specs.Rows.{size}
use Rattle.uimg_blob_reading.specs.Standing.{Stand}
use Rattle.uimg_blob_reading.specs.Spots.{Spot, spots}
use Rattle.uimg_blob_reading.specs.LookUps.{NodeOf}
use Rattle.uimg_blob_reading.proofs.PhaseLaws.{some_none, some_some}
use Rattle.uimg_blob_reading.proofs.StandLaws.{below_stand, after_stand, tree_stands}
use Rattle.uimg_fit_reading.specs.Nodes.{IsNode}
use Rattle.uimg_fit_reading.proofs.ImageLaws.{entries_size}
use Rattle.uimg_strict.specs.Looseness.{all_nodes}

length_all : (s : Siblings) → length (all_nodes (spots s)) ≡ size s
unfolding all_nodes spots
length_all none = refl
length_all (node at name own below after) =
    omega (arith, length-append (all_nodes (spots below)) (all_nodes (spots after)), length_all below, length_all after)

-- The node of a number.
pub record Numbered (t : Siblings) (number : ℕ) (found : NodeOf Spot) : Type 0 where
  pub level : Level
  pub node : IsNode t level number found

by_part : {X P : Type 0} (a b : List X) (n : ℕ) (x : X) → slice_get (a ++ b) n ≡ Some x → (slice_get a n ≡ Some x → P)
    → ((m : ℕ) → n ≡ length a + m → slice_get b m ≡ Some x → P) → P
by_part [] b n x is in_first in_second = in_second n (omega arith) is
by_part (y ∷ a) b zero x is in_first in_second = in_first is
by_part (y ∷ a) b (suc n) x is in_first in_second =
    by_part a b n x is in_first (λ m place there. in_second m (omega (arith, place)) there)

numbered : (t : Siblings) (level : Level) (parent : Option ℕ) (i : ℕ) (s : Siblings) → Stand t level parent i s
    → (k : ℕ) (found : NodeOf Spot) → slice_get (all_nodes (spots s)) k ≡ Some found → Numbered t (i + k) found
unfolding all_nodes spots
numbered t level parent i none stands k found is = absurd (some_none (sym is))
numbered t level parent i (node at name own below after) stands zero found is =
    let here : i ≡ i + zero = omega arith in
    record {
      level = level;
      node = record {
        parent = parent;
        at = at;
        name = name;
        own = own;
        below = below;
        after = after;
        stands = subst (λ (n : ℕ). Stand t level parent n (node at name own below after)) here stands;
        is = sym (some_some _ _ is);
      };
    }
numbered t level parent i (node at name own below after) stands (suc k) found is =
    by_part (all_nodes (spots below)) (all_nodes (spots after)) k found is
    (λ in_first.
    let number : i + 1 + k ≡ i + suc k = omega arith in
    subst (λ (n : ℕ). Numbered t n found) number
    (numbered t (level_in (role_at level name)) (Some i) (i + 1) below (below_stand t level parent i at name own below after stands) k found in_first))
    (λ m place there.
    let number : i + (1 + size below) + m ≡ i + suc k = omega (arith, place, length_all below) in
    subst (λ (n : ℕ). Numbered t n found) number
    (numbered t (level_after level name) parent (i + (1 + size below)) after (after_stand t level parent i at name own below after stands) m found there))

-- the element of a number, and what is left from it on
pub record Element {X : Type 0} (xs : List X) (i : ℕ) : Type 0 where
  pub x : X
  pub is : slice_get xs i ≡ Some x
  pub left : drop i xs ≡ x ∷ drop (i + 1) xs

element : {X : Type 0} (xs : List X) (i : ℕ) → i < length xs → Element xs i
element [] i within = absurd (suc-ne-zero i (omega (arith, within)))
element (y ∷ xs) zero within = record { x = y; is = refl; left = refl }
element (y ∷ xs) (suc i) within =
    let e = element xs i (omega (arith, within)) in
    let next : suc (i + 1) ≡ suc i + 1 = omega arith in
    record { x = e.x; is = e.is; left = e.left ∙ ap (λ (n : ℕ). e.x ∷ drop n (y ∷ xs)) next }

-- A node of a number, and the nodes from it on.
pub record NodeLeft (t : Siblings) (i : ℕ) : Type 0 where
  pub found : NodeOf Spot
  pub numbered : Numbered t i found
  pub left : drop i (all_nodes (spots t)) ≡ found ∷ drop (i + 1) (all_nodes (spots t))

pub node_left : (t : Siblings) (blob : Blob) (es : List (List ℕ)) → IsIndexed t blob es → (i : ℕ) → i < length es → NodeLeft t i
node_left t blob es indexed i within =
    let e = element (all_nodes (spots t)) i (omega (arith, within, entries_size t blob es indexed, length_all t)) in
    let here : 0 + i ≡ i = omega arith in
    record {
      found = e.x;
      numbered = subst (λ (n : ℕ). Numbered t n e.x) here (numbered t top None 0 t (tree_stands t) i e.x e.is);
      left = e.left;
    }

-- nothing is left past the end
pub drop_none : {X : Type 0} (xs : List X) (i : ℕ) → length xs ≤ i → drop i xs ≡ []
drop_none [] zero h = refl
drop_none [] (suc i) h = refl
drop_none (x ∷ xs) zero h = absurd (suc-ne-zero (length xs) (omega (arith, h)))
drop_none (x ∷ xs) (suc i) h = drop_none xs i (omega (arith, h))

-- no node is left after the last entry
pub none_left : (t : Siblings) (blob : Blob) (es : List (List ℕ)) → IsIndexed t blob es → (i : ℕ) → length es ≤ i → drop i (all_nodes (spots t)) ≡ []
none_left t blob es indexed i past =
    drop_none (all_nodes (spots t)) i (omega (arith, past, entries_size t blob es indexed, length_all t))
