-- The first name that comes again, by a set of the names before.
use Rattle.std.proofs.Common.{◌≡◌, ◌+◌, ℕ, List, [], ◌∷◌, drop, map, Some, None, Bool, true, false, ◌||◌, Vec, if◌then◌else◌, ap, sym, ◌∙◌}
use Rattle.std.specs.Str.{bytes_eq}
use Rattle.std.specs.BTreeSet.{BTreeSet}
use Rattle.std.specs.List.{list_any}
use Rattle.uimg_strict.specs.Names.{again, again_after, HasNames, AddsName}
use Rattle.uimg_strict.specs.Telling.{items_of}

-- A set has the names before those that are left, of which the first that comes again is that of all.
pub record LeftAgain {Z W : Type 0} (known : BTreeSet (Vec ℕ Z)) (left all : List (Vec ℕ W)) : Type 0 where
  pub before : List (List ℕ)
  pub has : HasNames known before
  pub is : again_after before (map items_of left) ≡ again (map items_of all)

-- a name that did not come before
pub again_later : {Z W : Type 0} (known grown : BTreeSet (Vec ℕ Z)) (names : List (Vec ℕ W)) (i : ℕ) (x : Vec ℕ W) (k : LeftAgain known (drop i names) names)
    → drop i names ≡ x ∷ drop (i + 1) names → list_any (bytes_eq x.items) k.before ≡ false → AddsName x.items known grown → LeftAgain grown (drop (i + 1) names) names
unfolding again_after
again_later known grown names i x k are fresh adds = record {
  before = x.items ∷ k.before;
  has = λ name. adds name ∙ ap (λ (b : Bool). bytes_eq name x.items || b) (k.has name);
  is = ap (λ (b : Bool). if b then Some x.items else again_after (x.items ∷ k.before) (map items_of (drop (i + 1) names))) (sym fresh)
      ∙ ap (λ (l : List (Vec ℕ _)). again_after k.before (map items_of l)) (sym are) ∙ k.is;
}

-- a name that came before
pub again_here : {Z W : Type 0} (known : BTreeSet (Vec ℕ Z)) (names left more : List (Vec ℕ W)) (x : Vec ℕ W) (k : LeftAgain known left names)
    → left ≡ x ∷ more → list_any (bytes_eq x.items) k.before ≡ true → Some x.items ≡ again (map items_of names)
unfolding again_after
again_here known names left more x k are known_it =
    ap (λ (b : Bool). if b then Some x.items else again_after (x.items ∷ k.before) (map items_of more)) (sym known_it)
    ∙ ap (λ (l : List (Vec ℕ _)). again_after k.before (map items_of l)) (sym are) ∙ k.is

-- no name is left
pub again_never : {Z W : Type 0} (known : BTreeSet (Vec ℕ Z)) (names left : List (Vec ℕ W)) (k : LeftAgain known left names)
    → left ≡ [] → None ≡ again (map items_of names)
unfolding again_after
again_never known names left k none = ap (λ (l : List (Vec ℕ _)). again_after k.before (map items_of l)) (sym none) ∙ k.is
