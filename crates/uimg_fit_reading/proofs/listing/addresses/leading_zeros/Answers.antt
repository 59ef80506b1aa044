use Rattle.std.proofs.Common.{◌≡◌, ◌≢◌, ◌==◌, ℕ, true, not, length, ap, sym, arith}
use Rattle.std.proofs.lemmas.{Bool.eqb-true, List.Sums.position_or_len_is}
use Rattle.uimg_blob_reading.proofs.PhaseLaws.{by_bool}
use Rattle.uimg_fit_reading.proofs.listing.addresses.leading_zeros.Goals as goal

other : (d : ℕ) → d ≢ 48 → not (d == 48) ≡ true
other d h = by_bool (d == 48) (λ same. absurd (h (eqb-true d 48 same))) (λ differs. ap not differs)

pub returns-then-digit-ne48 : goal.returns-then-digit-ne48
returns-then-digit-ne48 c =
    sym (position_or_len_is (λ (d : ℕ). not (d == 48)) c.args.digits.now c.loop-i.i 0 (omega (arith, c.loop-i-test.true))
    (λ k h. ap (λ (d : ℕ). not (d == 48)) (c.loop-i.invariant k h)) (λ within. other _ c.if-digit-ne48.true))

pub returns : goal.returns
returns c =
    sym (position_or_len_is (λ (d : ℕ). not (d == 48)) c.args.digits.now (length c.args.digits.now) 0 (omega arith)
    (λ k h. ap (λ (d : ℕ). not (d == 48)) (c.loop-i.invariant k (omega (arith, h, c.loop-i-test.false)))) (λ within. absurd (omega (arith, within))))
