-- Steps that take memory for a property.
use Rattle.std.specs.Prelude.{Result, IfOk, IsOkUnless}
use Rattle.uimg_fit_base.specs.declared.fault.FitFault.{FitFault, TheVariants.OutOfMemory}

-- A fact holds of the result, or memory was refused.
pub record MakesUnlessMemory {X : Type 0} (result : Result X FitFault) (Made : X → Type 0)
    : Type 0 where
  pub made : IfOk result Made
  pub memory : IsOkUnless result OutOfMemory
