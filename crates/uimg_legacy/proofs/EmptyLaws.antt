-- Whether one of the parts is empty, one part at a time.
use Rattle.std.proofs.Common.{◌≡◌, ◌≢◌, ◌<◌, ◌+◌, ℕ, zero, suc, List, [], length, take, get_or, true, false, ◌==◌, ◌∙◌, refl}
use Rattle.std.proofs.{Math.Dec.eqb-suc-zero, lemmas.List.Folds.{list_any_more, list_any_at}}
use Rattle.uimg_legacy.specs.Building.{has_empty}

-- no parts
pub empty_none : has_empty [] ≡ false
unfolding has_empty
empty_none = refl

not_empty : (n : ℕ) → n ≢ 0 → (n == 0) ≡ false
not_empty zero h = absurd (h refl)
not_empty (suc n) h = eqb-suc-zero n

-- one more part that is not empty
pub full_more : (ps : List (List ℕ)) (i : ℕ) → i < length ps → has_empty (take i ps) ≡ false → length (get_or ps i []) ≢ 0 → has_empty (take (i + 1) ps) ≡ false
unfolding has_empty
full_more ps i h full part =
    list_any_more (λ p. length p == 0) ps i [] h ∙ rw (full, not_empty _ part) refl

-- a part that is
pub empty_at : (ps : List (List ℕ)) (i : ℕ) → i < length ps → length (get_or ps i []) ≡ 0 → has_empty ps ≡ true
unfolding has_empty
empty_at ps i h part = list_any_at (λ p. length p == 0) ps i [] h (rw part refl)
