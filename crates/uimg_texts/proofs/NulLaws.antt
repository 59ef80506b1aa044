-- The bytes before the first NUL.
use Rattle.std.proofs.Common.{◌≡◌, ◌≢◌, ◌<◌, ℕ, zero, suc, List, [], ◌∷◌, length, take, get_or, Some, None, refl, arith}
use Rattle.uimg_texts.specs.Nul.{before_nul}

-- where no byte is a NUL there is no name
pub before_nul-none : (xs : List ℕ) → ((k : ℕ) → k < length xs → get_or xs k 0 ≢ 0) → before_nul xs ≡ None
unfolding before_nul
before_nul-none [] none = refl
before_nul-none (zero ∷ xs) none = absurd (none 0 (omega arith) refl)
before_nul-none (suc b ∷ xs) none = rw (before_nul-none xs (λ k h. none (suc k) (omega arith))) refl

-- the bytes before a NUL are a name, where none of them is one
pub before_nul-found : (xs : List ℕ) (n : ℕ) → n < length xs → ((k : ℕ) → k < n → get_or xs k 0 ≢ 0) → get_or xs n 0 ≡ 0 → before_nul xs ≡ Some (take n xs)
unfolding before_nul
before_nul-found [] n within none here = absurd (omega arith)
before_nul-found (zero ∷ xs) zero within none here = refl
before_nul-found (zero ∷ xs) (suc n) within none here = absurd (none 0 (omega arith) refl)
before_nul-found (suc b ∷ xs) zero within none here = absurd (cc)
before_nul-found (suc b ∷ xs) (suc n) within none here = rw (before_nul-found xs n (omega arith) (λ k h. none (suc k) (omega arith)) here) refl
