-- Why an image has no map.
use Rattle.std.specs.Prelude.{Result, Err, Bool, true, false}
use Rattle.uimg_blob_reading.specs.Faults.{refuses_memory}
use Rattle.uimg_fit_base.specs.declared.fault.Fault.TheVariants as fit
use Rattle.uimg_map.specs.declared.fault.MapFault.{MapFault, TheVariants.{Fit, Read, OutOfMemory}}

-- the result is a failed read
abbrev pub is_read : {X : Type 0} → Result X MapFault → Bool
is_read (Err Read) = true
is_read _ = false

-- the fault is a failed read or refused memory, not one of the image
abbrev pub stops : MapFault → Bool
stops Read = true
stops OutOfMemory = true
stops (Fit (fit.Blob fault at)) = refuses_memory fault
stops _ = false
