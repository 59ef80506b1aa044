-- What the results of a command mean.
use Rattle.std.specs.Prelude.{◌≡◌, Result, Ok, Err, Option, Some, None, Bool, true, false, not}
use Rattle.uimg_base.specs.{Outcome.{End, done, not_right, refused}, declared.status.Status.Status}
use Rattle.uimg_base.specs.declared.status.Status.TheVariants.{Done, NotRight}
use Rattle.uimg_blob_reading.specs.Faults.{refuses_memory, is_too_large}
use Rattle.uimg_fit_base.specs.{Faults.of_making as fit_of_making, declared.fault.FitFault.FitFault}
use Rattle.uimg_fit_base.specs.declared.fault.Fault.{Fault as FitEngineFault}
use Rattle.uimg_fit_base.specs.declared.fault.Fault.TheVariants as fit
use Rattle.uimg_fit_base.specs.declared.fault.FitFault.TheVariants as fit_fault
use Rattle.uimg_its.specs.Answers.{tells_no_file, tells_unread}
use Rattle.uimg_legacy.specs.Faults.{of_making as legacy_of_making}
use Rattle.uimg_legacy.specs.declared.fault.Fault.{Fault as LegacyEngineFault}
use Rattle.uimg_legacy.specs.declared.fault.Fault.TheVariants as legacy
use Rattle.uimg_engine.specs.declared.fault.Fault.{Fault, TheVariants.{NoFile, Keep, OutOfMemory}}
use Rattle.uimg_engine.specs.declared.fault.Fault.TheVariants.{Legacy, Blob, Fit, Its, Read, Put}

-- a fault of the engine of legacy images, as one of the command
abbrev pub of_legacy : LegacyEngineFault → Fault
of_legacy (legacy.Legacy f) = Legacy f
of_legacy legacy.Read = Read
of_legacy legacy.Put = Put

-- a fault of the engine of FIT images, as one of the command
abbrev pub of_fit : FitEngineFault → Fault
of_fit (fit.Blob f at) = Blob f at
of_fit (fit.Fit f) = Fit f
of_fit fit.Read = Read
of_fit fit.Put = Put

-- the result is a failed read
abbrev pub is_read : {X : Type 0} → Result X Fault → Bool
is_read (Err Read) = true
is_read _ = false

-- the result is a failed read, also of a file that is read into a tree
abbrev pub is_unread : {X : Type 0} → Result X Fault → Bool
is_unread (Err Read) = true
is_unread (Err (Its fault)) = tells_unread fault.kind
is_unread _ = false

-- the result is a failed write
abbrev pub is_put : {X : Type 0} → Result X Fault → Bool
is_put (Err Put) = true
is_put _ = false

-- the result is refused memory for the table of a FIT image's nodes
abbrev pub is_no_memory : {X : Type 0} → Result X Fault → Bool
is_no_memory (Err (Blob fault at)) = refuses_memory fault
is_no_memory _ = false

-- the result is a refusal of the image, or of memory for the table of its nodes
abbrev pub is_refused : {X : Type 0} → Result X Fault → Bool
is_refused (Err (Legacy fault)) = true
is_refused (Err (Blob fault at)) = true
is_refused (Err (Fit fault)) = true
is_refused _ = false

-- the result is that what was written could not be reopened
abbrev pub is_keep : {X : Type 0} → Result X Fault → Bool
is_keep (Err Keep) = true
is_keep _ = false

-- the fault is a refused open of a payload's file
abbrev pub refuses_payload : FitFault → Bool
refuses_payload fit_fault.NoFile = true
refuses_payload _ = false

-- the result is a refusal of the image, the files, the source or memory, but not of the open of a
-- payload's file: nothing is written then
abbrev pub is_before_building : {X : Type 0} → Result X Fault → Bool
is_before_building (Err (Legacy fault)) = true
is_before_building (Err (Blob fault at)) = true
is_before_building (Err (Fit fault)) = not (refuses_payload fault)
is_before_building (Err (Its fault)) = true
is_before_building (Err (NoFile i)) = true
is_before_building (Err OutOfMemory) = true
is_before_building _ = false

-- the result is a refused open of a file of the command
abbrev pub is_no_file : {X : Type 0} → Result X Fault → Bool
is_no_file (Err (NoFile i)) = true
is_no_file _ = false

-- the result is a refused open of the source, or of a file that is read into its tree
abbrev pub is_no_text : {X : Type 0} → Result X Fault → Bool
is_no_text (Err (NoFile i)) = true
is_no_text (Err (Its fault)) = tells_no_file fault.kind
is_no_text _ = false

-- the result is a refused open of a payload's file
abbrev pub is_no_payload : {X : Type 0} → Result X Fault → Bool
is_no_payload (Err (Fit fault)) = refuses_payload fault
is_no_payload _ = false

-- the fault is a failed read of a payload's file, or another size of it
abbrev pub loses_payload : FitFault → Bool
loses_payload fit_fault.ReadFailed = true
loses_payload _ = false

-- the result is a failed read of a payload's file while its hashes are filled in, or another size
-- of it
abbrev pub is_lost_payload : {X : Type 0} → Result X Fault → Bool
is_lost_payload (Err (Fit fault)) = loses_payload fault
is_lost_payload _ = false

-- No read failed: neither of a file that is read into a tree nor of a payload's file.
pub record LosesNothing {X : Type 0} (result : Result X Fault) : Type 0 where
  -- neither `Read` nor I6
  pub reads : is_unread result ≡ false
  -- no F10
  pub payloads : is_lost_payload result ≡ false

-- the result is a fault that only making has: nothing is listed then
abbrev pub is_of_making : {X : Type 0} → Result X Fault → Bool
is_of_making (Err (Legacy fault)) = legacy_of_making fault
is_of_making (Err (Blob fault at)) = is_too_large fault
is_of_making (Err (Fit fault)) = fit_of_making fault
is_of_making (Err (Its fault)) = true
is_of_making (Err (NoFile i)) = true
is_of_making (Err Keep) = true
is_of_making (Err OutOfMemory) = true
is_of_making _ = false

-- an end, or none if memory was refused
abbrev pub unless_memory : Bool → End Fault → Option (End Fault)
unless_memory true e = None
unless_memory false e = Some e

-- The end that a result means, unless a device failed or memory was refused. A command on an image
-- never returns a fault of making, and no outcome has one as its end.
abbrev pub end_of : Result Status Fault → Option (End Fault)
end_of (Ok Done) = Some done
end_of (Ok NotRight) = Some not_right
end_of (Err Read) = None
end_of (Err Put) = None
end_of (Err (Blob fault at)) = unless_memory (refuses_memory fault) (refused (Blob fault at))
end_of (Err fault) = Some (refused fault)
