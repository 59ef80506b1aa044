-- Names in a set.
use Rattle.std.proofs.Common.{◌≡◌, ℕ, List, [], ◌∷◌, Bool, true, false, ◌||◌, refl, ap, sym, ◌∙◌}
use Rattle.std.proofs.Common.{Vec, is_eq}
use Rattle.std.proofs.lemmas.Map.Text.{is_eq-slice_cmp}
use Rattle.std.proofs.lemmas.Slice.Eq.{bytes_eq-Decides}
use Rattle.std.specs.Cmp.Lexicographic.{slice_cmp}
use Rattle.std.specs.Ordering.{nat_cmp}
use Rattle.std.specs.Str.{bytes_eq}
use Rattle.std.specs.BTreeSet.{insert_key}
use Rattle.std.specs.List.{list_any}
use Rattle.std.specs.declared.cmp.Ordering.{Ordering}
use Rattle.std.specs.declared.cmp.Ordering.TheVariants.{Less, Equal, Greater}
use Rattle.std.specs.Ordering.{match_ordering}

or_same : (a b : Bool) → (a || (a || b)) ≡ (a || b)
or_same true b = refl
or_same false b = refl

or_swap : (a b c : Bool) → (a || (b || c)) ≡ (b || (a || c))
or_swap true true c = refl
or_swap true false c = refl
or_swap false true c = refl
or_swap false false c = refl

module _ {K : Type 0} (p q : K → Bool) (same : (k : K) → p k ≡ q k) where
  -- what two tests that agree find
  pub any_same : (ks : List K) → list_any p ks ≡ list_any q ks
  any_same [] = refl
  any_same (k ∷ ks) = ap (λ b. b || list_any p ks) (same k) ∙ ap (λ b. q k || b) (any_same ks)

module _ {K : Type 0} (cmp : K → K → Ordering) (p : K → Bool) (same : (x y : K) → cmp x y ≡ Equal → p x ≡ p y) where
  at_key : (k x : K) (xs : List K) (o : Ordering) → cmp k x ≡ o → list_any p (insert_key cmp xs k) ≡ (p k || list_any p xs)
      → list_any p (match_ordering o (k ∷ x ∷ xs) (x ∷ xs) (x ∷ insert_key cmp xs k)) ≡ (p k || (p x || list_any p xs))
  at_key k x xs Less is further = refl
  at_key k x xs Equal is further = sym (ap (λ b. b || (p x || list_any p xs)) (same k x is) ∙ or_same (p x) (list_any p xs))
  at_key k x xs Greater is further = ap (λ b. p x || b) further ∙ or_swap (p x) (p k) (list_any p xs)

  -- what a test finds where a key is put in
  pub any_inserted : (k : K) (ks : List K) → list_any p (insert_key cmp ks k) ≡ (p k || list_any p ks)
  any_inserted k [] = refl
  any_inserted k (x ∷ xs) = at_key k x xs (cmp k x) refl (any_inserted k xs)

-- names that compare as equal are the same
pub same_name : (name xs ys : List ℕ) → slice_cmp nat_cmp xs ys ≡ Equal → bytes_eq name xs ≡ bytes_eq name ys
same_name name xs ys is = ap (bytes_eq name) ((bytes_eq-Decides xs ys).0 (sym (is_eq-slice_cmp xs ys) ∙ ap is_eq is))

pub compared_names : {Z : Type 0} (name : List ℕ) (keys : List (Vec ℕ Z)) → list_any (λ known. is_eq (slice_cmp nat_cmp name known.items)) keys ≡ list_any (λ known. bytes_eq name known.items) keys
compared_names name keys = any_same (λ known. is_eq (slice_cmp nat_cmp name known.items)) (λ known. bytes_eq name known.items) (λ known. is_eq-slice_cmp name known.items) keys
