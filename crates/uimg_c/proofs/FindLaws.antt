-- A look-up in a list from an index on.
use Rattle.std.proofs.Common.{◌≡◌, ◌<◌, ◌+◌, ℕ, zero, suc, List, [], ◌∷◌, length, drop, get_or, cond, Bool, true, false, Some, ap, sym, ◌∙◌, arith}
use Rattle.std.specs.Prelude.{find}

-- the element at the index passes
pub found_at : {X : Type 0} (p : X → Bool) (xs : List X) (i : ℕ) (d : X) → i < length xs → p (get_or xs i d) ≡ true → find p (drop i xs) ≡ Some (get_or xs i d)
found_at p [] i d l is = absurd (omega arith)
found_at p (x ∷ xs) zero d l is = ap (λ b. cond b (Some x) (find p xs)) is
found_at p (x ∷ xs) (suc i) d l is = found_at p xs i d (omega arith) is

-- it does not
pub found_past : {X : Type 0} (p : X → Bool) (xs : List X) (i : ℕ) (d : X) → i < length xs → p (get_or xs i d) ≡ false → find p (drop (i + 1) xs) ≡ find p (drop i xs)
found_past p [] i d l is = absurd (omega arith)
found_past p (x ∷ xs) zero d l is = sym (ap (λ b. cond b (Some x) (find p xs)) is)
found_past p (x ∷ xs) (suc i) d l is =
    let next : suc i + 1 ≡ suc (i + 1) = omega arith in
    ap (λ n. find p (drop n (x ∷ xs))) next ∙ found_past p xs i d (omega arith) is
