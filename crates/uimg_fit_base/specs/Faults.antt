-- What the results of this crate mean.
use Rattle.std.specs.Prelude.{◌≡◌, ⊤, Result, Ok, Err, Option, Some, None, Bool, true, false}
use Rattle.uimg_base.specs.{Outcome.{End, done, not_right, refused}, declared.status.Status.Status}
use Rattle.uimg_base.specs.declared.status.Status.TheVariants.{Done, NotRight}
use Rattle.uimg_base.specs.declared.ranges.MoveFault.{MoveFault}
use Rattle.uimg_base.specs.declared.ranges.MoveFault.TheVariants as move
use Rattle.uimg_blob_reading.specs.Faults.{refuses_memory, is_too_large}
use Rattle.uimg_blob_reading.specs.declared.fault.IndexFault.{IndexFault}
use Rattle.uimg_blob_reading.specs.declared.fault.IndexFault.TheVariants as index
use Rattle.uimg_fit_base.specs.declared.fault.Fault.{Fault, TheVariants.{Blob, Fit, Read, Put}}
use Rattle.uimg_fit_base.specs.declared.fault.FitFault.{FitFault, TheVariants.ReadFailed}
use Rattle.uimg_fit_base.specs.declared.fault.FitFault.TheVariants.{UnknownAlgo, PositionTooLow}
use Rattle.uimg_fit_base.specs.declared.fault.FitFault.TheVariants.{TooLarge, OutOfMemory, NoFile}

-- a fault of indexing, as one of a command
abbrev pub of_index : IndexFault → Fault
of_index (index.Blob fault at) = Blob fault at
of_index index.Read = Read

-- a failed copy is a failed read or a failed write
abbrev pub of_move : MoveFault → Fault
of_move move.Read = Read
of_move move.Put = Put

-- the result is a failed read
abbrev pub is_read : {X : Type 0} → Result X Fault → Bool
is_read (Err Read) = true
is_read _ = false

-- the result is a failed write
abbrev pub is_put : {X : Type 0} → Result X Fault → Bool
is_put (Err Put) = true
is_put _ = false

-- the result is refused memory for the table of nodes
abbrev pub is_out_of_memory : {X : Type 0} → Result X Fault → Bool
is_out_of_memory (Err (Blob fault at)) = refuses_memory fault
is_out_of_memory _ = false

-- the fault is one of filling or building a tree, or of its files
abbrev pub of_making : FitFault → Bool
of_making UnknownAlgo = true
of_making PositionTooLow = true
of_making TooLarge = true
of_making OutOfMemory = true
of_making NoFile = true
of_making ReadFailed = true
of_making _ = false

-- the result is such a fault, or that of a blob to be built
abbrev pub is_of_making : {X : Type 0} → Result X Fault → Bool
is_of_making (Err (Blob fault at)) = is_too_large fault
is_of_making (Err (Fit fault)) = of_making fault
is_of_making _ = false

-- an end, or none if memory was refused
abbrev pub unless_memory : Bool → End Fault → Option (End Fault)
unless_memory true e = None
unless_memory false e = Some e

-- the end that a result means, unless a device failed or memory was refused
abbrev pub end_of : Result Status Fault → Option (End Fault)
end_of (Ok Done) = Some done
end_of (Ok NotRight) = Some not_right
end_of (Err (Blob fault at)) = unless_memory (refuses_memory fault) (refused (Blob fault at))
end_of (Err (Fit fault)) = Some (refused (Fit fault))
end_of (Err _) = None

-- the result is a refusal of the image, or of memory for its table of nodes
abbrev pub is_refused : {X : Type 0} → Result X Fault → Bool
is_refused (Err (Blob fault at)) = true
is_refused (Err (Fit fault)) = true
is_refused _ = false

-- The result is the value or the fault of a definition, unless a device failed or memory was
-- refused.
abbrev pub Gives : {X Y : Type 0} → (X → Y) → Result X Fault → Result Y Fault → Type 0
Gives view (Ok x) r = r ≡ Ok (view x)
Gives view (Err (Blob fault at)) r = refuses_memory fault ≡ false → r ≡ Err (Blob fault at)
Gives view (Err (Fit fault)) r = r ≡ Err (Fit fault)
Gives view (Err _) r = ⊤
