-- The exit status where a source is refused that dtc compiles, or an image that is to be updated.
use Rattle.std.specs.Prelude.{ℕ}
use Rattle.uimg_dts.specs.declared.fault.DtsKind.{DtsKind}
use Rattle.uimg_dts.specs.declared.fault.DtsKind.TheVariants as dts
use Rattle.uimg_dts.specs.declared.fault.Refusal.TheVariants as refusal
use Rattle.uimg_engine.specs.Faults.{of_fit}
use Rattle.uimg_fit_updating.specs.declared.fault.UpdateFault.{UpdateFault}
use Rattle.uimg_fit_updating.specs.declared.fault.UpdateFault.TheVariants as update
use Rattle.uimg_checks.specs.FaultStatuses.{fault_status}

-- A source is refused, unless the reason is outside its text: memory or a file.
abbrev pub refused_status : DtsKind → ℕ
refused_status dts.NoFile = 3
refused_status dts.ReadFailed = 3
refused_status (dts.Source refusal.OutOfMemory) = 3
refused_status (dts.Source other) = 1

-- An image is refused, unless memory or a read failed, or it was changed while it was read.
abbrev pub update_status : UpdateFault → ℕ
update_status (update.Fit fault) = fault_status (of_fit fault)
update_status update.OutOfMemory = 3
update_status update.Changed = 3
update_status fault = 1
