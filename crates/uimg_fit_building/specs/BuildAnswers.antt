-- The results of building, over files of the kept sizes.
use Rattle.std.specs.Prelude.{◌≡◌, List, [], Bool, true, false, Some, None, Result, Ok, Err, ⊤}
use Rattle.uimg_base.specs.Sink.{Sink, AppendsAll, AppendsPrefix}
use Rattle.uimg_blob_reading.specs.Plain.{Nodes}
use Rattle.uimg_blob_writing.specs.Measured.{bad_name}
use Rattle.uimg_blob_writing.specs.declared.reservation.Reservation.{Reservation}
use Rattle.uimg_fit_base.specs.declared.fault.Fault.{Fault, TheVariants.{Blob, Fit, Read, Put}}
use Rattle.uimg_fit_base.specs.declared.fault.FitFault.TheVariants.{OutOfMemory, NoFile}
use Rattle.uimg_fit_base.specs.declared.placement.AlignedPlacement.{AlignedPlacement}
use Rattle.uimg_fit_building.specs.{Building.built_with, Refusing.fault_with}

-- the result is a refused open
abbrev pub is_no_file : {X : Type 0} → Result X Fault → Bool
is_no_file (Err (Fit NoFile)) = true
is_no_file _ = false

-- the result is a refusal of the tree, or of memory for it: nothing is written then
abbrev pub is_before_writing : {X : Type 0} → Result X Fault → Bool
is_before_writing (Err (Blob fault at)) = true
is_before_writing (Err (Fit NoFile)) = false
is_before_writing (Err (Fit fault)) = true
is_before_writing _ = false

-- The file of a tree with reservations can be built.
pub record CanBuildWith (rs : List Reservation) (t : Nodes) (placement : AlignedPlacement)
    : Type 0 where
  -- each name of the tree has at most 255 bytes and no NUL
  pub named : bad_name t ≡ None
  pub fits : fault_with rs t placement ≡ None

-- The file of a tree without reservations can be built.
abbrev pub CanBuild : Nodes → AlignedPlacement → Type 0
CanBuild t placement = CanBuildWith [] t placement

-- What the result says of a tree with reservations and of what was appended: the file of the tree, or
-- why not; after a failed open, read or write, a prefix of the file.
abbrev pub AnswersWith : {X : Type 0} → List Reservation → Nodes → AlignedPlacement → Result X Fault
    → Sink → Sink → Type 0
AnswersWith rs t placement (Ok x) old new =
    CanBuildWith rs t placement × AppendsAll old new (built_with rs t placement)
AnswersWith rs t placement (Err (Blob fault at)) old new = (bad_name t ≡ Some fault) × (at ≡ 0)
AnswersWith rs t placement (Err (Fit OutOfMemory)) old new = ⊤
AnswersWith rs t placement (Err (Fit NoFile)) old new =
    CanBuildWith rs t placement × AppendsPrefix old new (built_with rs t placement)
AnswersWith rs t placement (Err (Fit fault)) old new =
    (bad_name t ≡ None) × (fault_with rs t placement ≡ Some fault)
AnswersWith rs t placement (Err Read) old new =
    CanBuildWith rs t placement × AppendsPrefix old new (built_with rs t placement)
AnswersWith rs t placement (Err Put) old new =
    CanBuildWith rs t placement × AppendsPrefix old new (built_with rs t placement)

-- the same of a tree without reservations
abbrev pub BuildsAnswer : {X : Type 0} → Nodes → AlignedPlacement → Result X Fault → Sink → Sink
    → Type 0
BuildsAnswer t placement answer old new = AnswersWith [] t placement answer old new
