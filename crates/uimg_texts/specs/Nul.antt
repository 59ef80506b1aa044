-- NUL-terminated texts.
use Rattle.std.specs.Prelude.{ℕ, zero, suc, List, [], ◌∷◌, Option, Some, None}

-- the bytes before the first NUL, if there is one
unfoldable pub before_nul : List ℕ → Option (List ℕ)
before_nul [] = None
before_nul (zero ∷ bytes) = Some []
before_nul (suc b ∷ bytes) =
    elim (before_nul bytes) as (λ _. Option (List ℕ))
    [ None ↦ None | Some name ↦ Some (suc b ∷ name) ]

-- the bytes before the first NUL, or all bytes if there is none
unfoldable pub text : List ℕ → List ℕ
text bytes = elim (before_nul bytes) as (λ _. List ℕ) [ None ↦ bytes | Some found ↦ found ]
