-- How many files and bytes are claimed, and whether that is too much.
use Rattle.std.specs.Prelude.{ℕ, ◌+◌, ◌-◌, ◌^◌, min, nat_lt, if◌then◌else◌, List, [], ◌∷◌, ◌++◌, length, sum_by, Bool, false, not, ◌&&◌, Option, Some, None}
use Rattle.std.specs.Int.{from_be_bytes, w64}
use Rattle.uimg_fit_checking.specs.Claiming.{Claim, claim}
use Rattle.uimg_unpacking.specs.declared.limits.Limits.{Limits}
use Rattle.uimg_unpacking.specs.declared.trouble.Trouble.{Trouble}
use Rattle.uimg_unpacking.specs.declared.trouble.Trouble.TheVariants.{TooManyFiles, TooManyBytes}

-- a sum of 64 bits: it stays at the greatest number
abbrev pub sum64 : ℕ → ℕ → ℕ
sum64 a b = min (a + b) (2 ^ 64 - 1)

-- the claims of which first the name and then the length were noted, the newest first
abbrev pub claims_by : List (List ℕ) → List Claim
claims_by [] = []
claims_by (size ∷ []) = []
claims_by (size ∷ name ∷ noted) = claims_by noted ++ claim name (from_be_bytes w64 size) ∷ []

-- how many files and bytes are claimed
abbrev pub files_in : List Claim → ℕ
files_in claims = min (length claims) (2 ^ 64 - 1)

abbrev pub bytes_in : List Claim → ℕ
bytes_in claims = min (sum_by (λ one. one.size) claims) (2 ^ 64 - 1)

abbrev pub is_over : Option ℕ → ℕ → Bool
is_over None bytes = false
is_over (Some most) bytes = nat_lt most bytes

-- These are no more than the limits allow.
abbrev pub fits : Limits → List Claim → Bool
fits limits claims = not (nat_lt limits.files (files_in claims)) && not (is_over limits.bytes (bytes_in claims))

abbrev pub exceeded_bytes : Option ℕ → ℕ → Option Trouble
exceeded_bytes None bytes = None
exceeded_bytes (Some most) bytes = if nat_lt most bytes then Some (TooManyBytes most) else None

-- too many files, or else too many bytes
abbrev pub exceeded : Limits → List Claim → Option Trouble
exceeded limits claims =
    if nat_lt limits.files (files_in claims) then Some (TooManyFiles limits.files)
    else exceeded_bytes limits.bytes (bytes_in claims)
