-- A number never falls as digits are added.
use Rattle.std.proofs.Common.{ℕ, ◌+◌, ◌*◌, ◌≤◌, List, [], ◌∷◌, arith, le_refl, le_trans, mul-le-mul_left}
use Rattle.std.specs.{Char.digit_value, Str.Parse.digits_value_after}

pub never_falls : (base n : ℕ) (ds : List ℕ) → 1 ≤ base → n ≤ digits_value_after base n ds
never_falls base n [] h = le_refl n
never_falls base n (d ∷ ds) h =
    let step : n ≤ n * base + digit_value d = omega (arith, mul-le-mul_left n h) in
    le_trans step (never_falls base (n * base + digit_value d) ds h)
