-- What is written reads back.
use Rattle.std.specs.Prelude.{◌≡◌, ℕ, List, ◌++◌, Ok}
use Rattle.uimg_blob_reading.specs.{Blob.tree, Plain.{Nodes, unplaced_in}}
use Rattle.uimg_blob_writing.specs.declared.blob_end.BlobEnd.{BlobEnd}
use Rattle.uimg_blob_writing.specs.{declared.reservation.Reservation.Reservation, Encoding.encode_with}

-- A file that begins with a tree's blob, for any end and reservations, reads back as it, without
-- offsets.
abbrev pub ReadsBack : BlobEnd → List Reservation → Nodes → Type 0
ReadsBack ending rs t = (more : List ℕ) → unplaced_in (tree (encode_with ending rs t ++ more)) ≡ Ok t
