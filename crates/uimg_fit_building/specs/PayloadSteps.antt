-- Steps that sum a payload.
use Rattle.std.specs.Prelude.{[], ℕ, List, Bool, IsTrue, Result, IfErr, OnOk}
use Rattle.uimg_sums.specs.{declared.{algo.Algo.Algo, bundle.Bundle.Bundle}, Bundle.Holds}
use Rattle.uimg_base.specs.{Lent.Lent, Named.FileMap, Opening.OpensJust}
use Rattle.uimg_blob_writing.specs.Content.{Content, file_of, IsKept}
use Rattle.uimg_fit_base.specs.declared.fault.FitFault.{FitFault}
use Rattle.uimg_fit_building.specs.{FillAnswers.OpensKeptBetween, ImageFillings.IsFileFault}

-- The payload, if it is a file, was opened and read, and no other file was opened. Any fault is one of that file; over honest
-- files, at `Ok`, the file exists with the kept size.
pub record ReadsPayloadBetween {X : Type 0} (steady : Bool) (payload : Content)
    (result : Result X FitFault) (old new : FileMap) : Type 0 where
  pub opens : OpensKeptBetween steady (IsKept old.bytes payload) result old new
  pub opened : OpensJust (file_of payload) old new
  pub faults : IfErr result (IsFileFault payload)
  pub kept : IsTrue old.honest → OnOk result (IsKept old.bytes payload)

abbrev pub ReadsPayload : {F X : Type 0} → Bool → (F → FileMap) → Content → Result X FitFault
    → Lent F → Type 0
ReadsPayload steady map payload result files =
    ReadsPayloadBetween steady payload result (map files.entry.now) (map files.exit.now)

-- A bundle that was new was fed these bytes.
abbrev pub Feeds : Lent Bundle → List ℕ → Type 0
Feeds bundle fed =
    (algos : List Algo) → Holds bundle.entry.now algos [] → Holds bundle.exit.now algos fed
