-- How many payloads an image has.
use Rattle.std.specs.Prelude.{◌≡◌, ℕ, List, Result, Ok, Err, Bool, true, false}
use Rattle.uimg_fit_checking.specs.Counting as fit
use Rattle.uimg_legacy.specs.Counting as legacy
use Rattle.uimg_engine.specs.declared.fault.Fault.{Fault}
use Rattle.uimg_engine.specs.declared.fault.Fault.TheVariants.{Legacy}
use Rattle.uimg_engine.specs.Faults.{of_fit, is_no_memory}

-- a count with its fault named for its format
abbrev pub count_as : {F : Type 0} → (F → Fault) → Result ℕ F → Result ℕ Fault
count_as name (Ok count) = Ok count
count_as name (Err fault) = Err (name fault)

-- the images of a FIT image, or the parts of a legacy image
abbrev pub count_of : Bool → List ℕ → Result ℕ Fault
count_of true file = count_as of_fit (fit.count_of file)
count_of false file = count_as Legacy (legacy.count_of file)

-- The result is a count or the fault that refuses the image, unless memory was refused.
abbrev pub TellsCount : Result ℕ Fault → Result ℕ Fault → Type 0
TellsCount counted result = is_no_memory result ≡ false → counted ≡ result
