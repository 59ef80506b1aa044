use Rattle.std.proofs.Common.{◌≡◌, ◌<◌, ℕ, get_or}
use Rattle.uimg_fit_reading.proofs.listing.addresses.leading_zeros.Given as goal

-- each digit below i is a zero
abbrev pub invariant-loop-i : goal.invariant-loop-i
invariant-loop-i l = (k : ℕ) → k < l.i → get_or l.digits k 0 ≡ 48
