-- The filled cells of a bar, by divisions.
use Rattle.std.proofs.Common.{◌≡◌, ◌≤◌, ◌<◌, ℕ, ◌+◌, ◌-◌, ◌*◌, ◌/◌, Bool, nat_lt, nat_le, ◌∙◌, ap, sym, arith}
use Rattle.std.{specs.Prelude.◌&&◌, proofs.Math.Nat.{div-lt_iff_lt-mul, le-div_iff_mul-le}}
use Rattle.std.proofs.Math.Bool.{and_comm}
use Rattle.std.proofs.lemmas.Bool.{ltb_from_iff, ltb-true, leb-true, lt-ltb, le-leb}

-- the first cell is the one whose part ends behind the place
from_cell : (x size j : ℕ) → 0 < size → nat_le (x / size) j ≡ nat_lt x ((j + 1) * size)
from_cell x size j pos = ltb_from_iff (
  (λ e.
      let at : x / size ≤ j = leb-true (x / size) j e in
      (div-lt_iff_lt-mul {k = size} {x = x} {y = j + 1} pos).0 (omega (arith, at))),
  (λ h.
      let less : x / size < j + 1 = (div-lt_iff_lt-mul {k = size} {x = x} {y = j + 1} pos).1 h in
      le-leb (x / size) j (omega (arith, less))),
)

next_part : (j size : ℕ) → (j + 1) * size ≡ j * size + size
next_part j size = omega arith

-- the last cell is the one whose part begins before the end
to_cell : (x size j : ℕ) → 0 < size → nat_lt j ((x + (size - 1)) / size) ≡ nat_lt (j * size) x
to_cell x size j pos = ltb_from_iff (
  (λ e.
      let at : j < (x + (size - 1)) / size = ltb-true j ((x + (size - 1)) / size) e in
      let most : (j + 1) * size ≤ x + (size - 1) = (le-div_iff_mul-le {k = size} {x = j + 1} {y = x + (size - 1)} pos).0 (omega (arith, at)) in
      omega (arith, most, next_part j size, pos)),
  (λ h.
      let most : (j + 1) * size ≤ x + (size - 1) = omega (arith, h, next_part j size, pos) in
      let at : j + 1 ≤ (x + (size - 1)) / size = (le-div_iff_mul-le {k = size} {x = j + 1} {y = x + (size - 1)} pos).1 most in
      lt-ltb j ((x + (size - 1)) / size) (omega (arith, at))),
)

pub filled : (cells size place stop j : ℕ) → 0 < size → place < stop → (nat_le (place * cells / size) j && nat_lt j ((stop * cells + (size - 1)) / size)) ≡ (nat_lt place stop && (nat_lt (j * size) (stop * cells) && nat_lt (place * cells) ((j + 1) * size)))
filled cells size place stop j pos some =
    ap (λ (x : Bool). x && nat_lt j ((stop * cells + (size - 1)) / size)) (from_cell (place * cells) size j pos)
    ∙ ap (λ (x : Bool). nat_lt (place * cells) ((j + 1) * size) && x) (to_cell (stop * cells) size j pos)
    ∙ and_comm (nat_lt (place * cells) ((j + 1) * size)) (nat_lt (j * size) (stop * cells))
    ∙ ap (λ (x : Bool). x && (nat_lt (j * size) (stop * cells) && nat_lt (place * cells) ((j + 1) * size))) (sym (lt-ltb place stop some))
