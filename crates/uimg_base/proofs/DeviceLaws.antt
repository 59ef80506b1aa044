-- What never fails.
use Rattle.std.proofs.Common.{◌≡◌, ℕ, Bool, true, false, refl, arith}
use Rattle.uimg_base.specs.Device.{RisesIf}

-- a count that is 0 before and after did not rise
pub never_rises : (failed : Bool) (old new : ℕ) → RisesIf failed old new → old ≡ 0 → new ≡ 0 → failed ≡ false
never_rises false old new rises before after = refl
never_rises true old new rises before after = absurd (omega (arith, rises.1 (omega arith)))
