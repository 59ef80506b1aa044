-- The names of requested images, in a set.
use Rattle.std.proofs.Common.{◌≡◌, ℕ, List, [], ◌∷◌, ◌||◌, Bool, Vec, is_eq, map, refl, ap₂}
use Rattle.std.proofs.lemmas.Map.Text.{is_eq-slice_cmp}
use Rattle.std.specs.Cmp.Lexicographic.{slice_cmp}
use Rattle.std.specs.List.{list_any}
use Rattle.std.specs.Ordering.{nat_cmp}
use Rattle.std.specs.Str.{bytes_eq}

-- a set has a name just if it is among its names
pub has_among : {Z : Type 0} (name : List ℕ) (keys : List (Vec ℕ Z)) → list_any (λ known. is_eq (slice_cmp nat_cmp name known.items)) keys ≡ list_any (bytes_eq name) (map (λ known. known.items) keys)
has_among name [] = refl
has_among name (key ∷ keys) = ap₂ (λ (a b : Bool). a || b) (is_eq-slice_cmp name key.items) (has_among name keys)
