-- A last entry of the reservation block.
use Rattle.std.proofs.Common.{◌≡◌, ◌<◌, ◌≤◌, ◌+◌, ◌-◌, ℕ, zero, suc, List, ◌||◌, Bool, true, false, refl, ap, sym, ◌∙◌, arith}
use Rattle.std.proofs.Math.Nat.{suc-ne-zero}
use Rattle.uimg_texts.specs.Slices.{slice}
use Rattle.uimg_strict.specs.Soundness.{is_last, ends_among}

pub ends_here : (file : List ℕ) (at n : ℕ) → 0 < n → is_last (slice file at 16) ≡ true → true ≡ ends_among file at n
unfolding ends_among
ends_here file at zero some is = absurd (suc-ne-zero 0 (omega (arith, some)))
ends_here file at (suc n) some is = sym (ap (λ (b : Bool). b || ends_among file (at + 16) n) is)

pub ends_later : (file : List ℕ) (at n : ℕ) → 0 < n → is_last (slice file at 16) ≡ false → ends_among file (at + 16) (n - 1) ≡ ends_among file at n
unfolding ends_among
ends_later file at zero some is = absurd (suc-ne-zero 0 (omega (arith, some)))
ends_later file at (suc n) some is =
    let one : suc n - 1 ≡ n = omega arith in
    ap (ends_among file (at + 16)) one ∙ sym (ap (λ (b : Bool). b || ends_among file (at + 16) n) is)

pub ends_never : (file : List ℕ) (at n : ℕ) → n ≤ 0 → false ≡ ends_among file at n
unfolding ends_among
ends_never file at zero none = refl
ends_never file at (suc n) none = absurd (suc-ne-zero n (omega (arith, none)))
