-- Steps of building.
use Rattle.std.specs.Prelude.{◌≡◌, ◌<◌, ℕ, Bool, IsTrue, List, [], Option, Some, None, Result, Ok, Err}
use Rattle.std.specs.{Prelude.{⊤, false, is_err}, Result.OnOk}
use Rattle.uimg_base.specs.{Device.RisesIf, Lent.Lent, Named.FileMap, Sink.Sink, Writing.Written}
use Rattle.uimg_blob_reading.specs.declared.fault.BlobFault.{BlobFault}
use Rattle.uimg_blob_reading.specs.declared.fault.BlobFault.TheVariants as blob
use Rattle.uimg_blob_writing.specs.{declared.fault.TreeFault.TreeFault, Measured.bad_name}
use Rattle.uimg_blob_writing.specs.{Content.{Unread, AreKept, in_full}, UsingFiles.UsesFiles}
use Rattle.uimg_blob_writing.specs.Layouts.{Plan, plan_with, totalsize}
use Rattle.uimg_blob_writing.specs.declared.blob_end.BlobEnd.{BlobEnd}
use Rattle.uimg_blob_writing.specs.declared.reservation.Reservation.{Reservation}
use Rattle.uimg_blob_writing.specs.declared.fault.TreeFault.TheVariants as tree
use Rattle.uimg_blob_writing.specs.Faults as writing
use Rattle.uimg_fit_base.specs.declared.fault.Fault.{Fault, TheVariants.{Blob, Fit, Read, Put}}
use Rattle.uimg_fit_base.specs.declared.fault.FitFault.TheVariants.{TooLarge, OutOfMemory, NoFile}
use Rattle.uimg_fit_base.specs.declared.placement.AlignedPlacement.{AlignedPlacement}
use Rattle.uimg_fit_base.specs.Faults.{is_read, is_put}
use Rattle.uimg_fit_building.specs.BuildAnswers.{is_no_file, is_before_writing, AnswersWith}

-- the fault of a tree that cannot be measured: its blob is too large for a file, memory was
-- refused, or a name is bad
abbrev pub of_measure : BlobFault → Fault
of_measure blob.TooLarge = Fit TooLarge
of_measure blob.OutOfMemory = Fit OutOfMemory
of_measure fault = Blob fault 0

-- the fault of a tree that was not written
abbrev pub of_writing : TreeFault → Fault
of_writing tree.Put = Put
of_writing tree.Read = Read
of_writing tree.NoFile = Fit NoFile

-- What the result of measuring says of a tree, with an end and reservations.
abbrev pub MeasuresTree : BlobEnd → List Reservation → Result Plan Fault → Unread → Type 0
MeasuresTree ending rs (Ok p) t = (bad_name t ≡ None) × (plan_with ending rs t ≡ p)
MeasuresTree ending rs (Err (Blob fault at)) t = (bad_name t ≡ Some fault) × (at ≡ 0)
MeasuresTree ending rs (Err (Fit TooLarge)) t =
    (bad_name t ≡ None) × (4294967295 < totalsize (plan_with ending rs t))
MeasuresTree ending rs (Err (Fit OutOfMemory)) t = ⊤
MeasuresTree ending rs (Err (Fit fault)) t = ⊥
MeasuresTree ending rs (Err Read) t = ⊥
MeasuresTree ending rs (Err Put) t = ⊥

-- What a call does that writes a text, which depends on files, if those of a tree are kept.
pub record WritesTextBetween {X : Type 0} (steady : Bool) (t : Unread) (answer : Result X TreeFault)
    (old new : FileMap) (s u : Sink) (text : (List ℕ → Option (List ℕ)) → List ℕ) : Type 0 where
  pub files : UsesFiles (writing.is_no_file answer) old new
  pub faults : RisesIf (writing.is_put answer) s.faults u.faults
  pub found : IsTrue old.complete → AreKept old.bytes t → writing.is_no_file answer ≡ false
  pub reads : IsTrue steady → IsTrue old.honest → AreKept old.bytes t
      → writing.is_read answer ≡ false
  pub written : IsTrue old.honest → AreKept old.bytes t
      → Written (is_err answer) s u (text old.bytes)

abbrev pub WritesText : {F X : Type 0} → Bool → (F → FileMap) → Unread → Result X TreeFault → Lent F
    → Lent Sink → ((List ℕ → Option (List ℕ)) → List ℕ) → Type 0
WritesText steady map t answer files out text =
    WritesTextBetween steady t answer (map files.entry.now) (map files.exit.now) out.entry.now
    out.exit.now text

-- What building does to files and to an output.
pub record BuildsBetween {X : Type 0} (steady : Bool) (rs : List Reservation) (t : Unread)
    (placement : AlignedPlacement) (answer : Result X Fault) (old new : FileMap) (s u : Sink)
    : Type 0 where
  -- no call changes the files; `NoFile` is returned if and only if their refusals rose
  pub files : UsesFiles (is_no_file answer) old new
  -- complete files of the stored sizes refuse no open
  pub found : IsTrue old.complete → AreKept old.bytes t → is_no_file answer ≡ false
  -- no read fails over honest files of the stored sizes that are opened as steady sources
  pub reads : IsTrue steady → IsTrue old.honest → AreKept old.bytes t → is_read answer ≡ false
  -- `Put` is returned if and only if the faults of the output rose
  pub faults : RisesIf (is_put answer) s.faults u.faults
  -- a refusal of the tree, or of memory for it, comes before the first byte
  pub untouched : IsTrue (is_before_writing answer) → u ≡ s
  -- at success over honest files each has its stored size
  pub kept : IsTrue old.honest → OnOk answer (AreKept old.bytes t)
  -- over honest files of the stored sizes, what the result says of the file of the tree
  pub told : IsTrue old.honest → AreKept old.bytes t
      → AnswersWith rs (in_full old.bytes t) placement answer s u

abbrev pub BuildsWith : {F X : Type 0} → Bool → (F → FileMap) → List Reservation → Unread
    → AlignedPlacement → Result X Fault → Lent F → Lent Sink → Type 0
BuildsWith steady map rs t placement answer files out =
    BuildsBetween steady rs t placement answer (map files.entry.now) (map files.exit.now)
    out.entry.now out.exit.now

-- the same of a tree without reservations
abbrev pub Builds : {F X : Type 0} → Bool → (F → FileMap) → Unread → AlignedPlacement
    → Result X Fault → Lent F → Lent Sink → Type 0
Builds steady map t placement answer files out =
    BuildsWith steady map [] t placement answer files out
