-- What writing a tree's blob does.
use Rattle.std.specs.{Prelude.{◌≡◌, ℕ, List, Bool, IsTrue, Result, is_err, false}, Result.OnOk}
use Rattle.uimg_base.specs.{Device.RisesIf, Lent.Lent, Named.FileMap, Sink.Sink, Writing.Written}
use Rattle.uimg_blob_reading.specs.Plain.{AllValues, AreNamed}
use Rattle.uimg_blob_writing.specs.{declared.fault.TreeFault.TreeFault, UsingFiles.{UsesFiles, OpensEach}}
use Rattle.uimg_blob_writing.specs.declared.blob_end.BlobEnd.{BlobEnd}
use Rattle.uimg_blob_writing.specs.declared.reservation.Reservation.{Reservation}
use Rattle.uimg_blob_writing.specs.Content.{Unread, files_in, in_full, AreKept, IsBytes}
use Rattle.uimg_blob_writing.specs.Encoding.{encode_with}
use Rattle.uimg_blob_writing.specs.{Faults.{is_put, is_no_file, is_read}, ReadsBack.ReadsBack}

-- What writing the blob of a tree, with an end and reservations, does to files and an output.
pub record WritesTreeBetween {X : Type 0} (always : Bool) (ending : BlobEnd) (rs : List Reservation)
    (t : Unread) (answer : Result X TreeFault) (old new : FileMap) (s u : Sink) : Type 0 where
  -- no call changes the files; `NoFile` is returned if and only if their refusals rose
  pub files : UsesFiles (is_no_file answer) old new
  -- exactly the files of the tree are opened, in the order of writing; at a fault the first ones
  pub opened : OpensEach (is_err answer) (files_in t) old new
  -- `Put` is returned if and only if the faults of the output rose
  pub faults : RisesIf (is_put answer) s.faults u.faults
  -- complete files of the stored sizes refuse no open
  pub found : IsTrue old.complete → AreKept old.bytes t → is_no_file answer ≡ false
  -- no read fails over honest files of the stored sizes that are always opened as steady sources
  pub steady : IsTrue always → IsTrue old.honest → AreKept old.bytes t → is_read answer ≡ false
  -- a tree without files is refused only by a failed write
  pub in_memory : AllValues IsBytes t → is_err answer ≡ is_put answer
  -- at success over honest files each has its stored size
  pub kept : IsTrue old.honest → OnOk answer (AreKept old.bytes t)
  -- over honest files of the stored sizes the blob was written, or at a fault a prefix of it
  pub written : IsTrue old.honest → AreKept old.bytes t
      → Written (is_err answer) s u (encode_with ending rs (in_full old.bytes t))
  -- if files have the stored sizes and all names are good, a file that begins with the blob reads
  -- back as the tree
  pub reads_back : AreKept old.bytes t → AreNamed t → ReadsBack ending rs (in_full old.bytes t)

abbrev pub WritesTree : {F X : Type 0} → Bool → (F → FileMap) → BlobEnd → List Reservation → Unread
    → Result X TreeFault → Lent F → Lent Sink → Type 0
WritesTree always map ending rs t answer files out =
    WritesTreeBetween always ending rs t answer (map files.entry.now) (map files.exit.now)
    out.entry.now out.exit.now
