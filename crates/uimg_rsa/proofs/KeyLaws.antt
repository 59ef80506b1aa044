-- The sizes of keys.
use Rattle.std.proofs.Common.{◌≡◌, ℕ, ◌%◌, ◌≤◌, List, length, true, Ok, Err, arith}
use Rattle.std.specs.Prelude.{slice_index, Result, OnOk}
use Rattle.uimg_rsa.specs.Opening.{is_modulus}

pub sizes : (modulus : List ℕ) → is_modulus modulus ≡ true
    → (length modulus % 8 ≡ 0) × (256 ≤ length modulus) × (length modulus ≤ 512) × (128 ≤ slice_index modulus 0)
unfolding is_modulus
sizes modulus h = grind arith

-- what holds anyway
pub on-ok : {A E P : Type 0} (r : Result A E) → P → OnOk r P
on-ok (Ok x) p = p
on-ok (Err e) p = tt
