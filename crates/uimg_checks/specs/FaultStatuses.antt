-- The exit status of a fault: 1 if an image, a source or a file is refused, and 3 if a file could not be
-- opened, or a read, a write or memory failed.
use Rattle.std.specs.Prelude.{ℕ, if◌then◌else◌}
use Rattle.uimg_blob_reading.specs.Faults.{refuses_memory}
use Rattle.uimg_engine.specs.declared.fault.Fault.{Fault}
use Rattle.uimg_engine.specs.declared.fault.Fault.TheVariants as engine
use Rattle.uimg_fit_base.specs.declared.fault.FitFault.{FitFault}
use Rattle.uimg_fit_base.specs.declared.fault.FitFault.TheVariants as fit
use Rattle.uimg_its.specs.Answers.{is_outside_text}
use Rattle.uimg_its.specs.declared.fault.FaultKind.{FaultKind}

-- A FIT image or its tree is refused, unless memory or a file of a payload failed.
abbrev pub fit_status : FitFault → ℕ
fit_status fit.OutOfMemory = 3
fit_status fit.NoFile = 3
fit_status fit.ReadFailed = 3
fit_status fault = 1

-- A source is refused, unless the reason is outside its text: memory or a file.
abbrev pub source_status : FaultKind → ℕ
source_status kind = if is_outside_text kind then 3 else 1

-- a command that stopped
abbrev pub fault_status : Fault → ℕ
fault_status (engine.Legacy fault) = 1
fault_status (engine.Blob fault offset) = if refuses_memory fault then 3 else 1
fault_status (engine.Fit fault) = fit_status fault
fault_status (engine.Its fault) = source_status fault.kind
fault_status fault = 3
