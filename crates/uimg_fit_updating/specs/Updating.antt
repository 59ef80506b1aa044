-- What an update makes of a FIT image.
use Rattle.std.specs.Prelude.{◌≡◌, ℕ, ◌+◌, ◌-◌, ◌*◌, ◌/◌, List, Option, Some, None, Ok}
use Rattle.std.specs.Prelude.{nat_le, if◌then◌else◌}
use Rattle.uimg_texts.specs.declared.naming.Naming.TheVariants.{All}
use Rattle.uimg_texts.specs.Numbers.{be32}
use Rattle.uimg_blob_reading.specs.{Blob.tree, Grammar.Siblings, Spots.spots}
use Rattle.uimg_blob_writing.specs.{Alignment.ends_at, Content.{Unread, bytes}, Layouts.{plan_with, totalsize}}
use Rattle.uimg_blob_writing.specs.declared.reservation.Reservation.{Reservation}
use Rattle.uimg_fit_building.specs.Filling.{each, with_images, filled_image_by}
use Rattle.uimg_fit_building.specs.{PayloadSums.{no_files, in_memory}, UnreadTrees.filled_unread}
use Rattle.uimg_fit_updating.specs.{Importing.imported, Reading.held, Reservations.reservations_of}

-- a tree with its images' digests, by the algorithms of the tools of U-Boot 2023.01, and with a
-- timestamp if there is a time
abbrev pub refilled : Option ℕ → Unread → Unread
refilled None t = with_images (each (filled_image_by All in_memory bytes)) t
refilled (Some time) t = filled_unread All no_files time t

-- the tree of a file with its payloads in it
abbrev pub whole : List ℕ → Siblings → Unread
whole file t = with_images (each (imported file (be32 file 4))) (held (spots t))

-- the tree of a file with its payloads in it, filled again
abbrev pub updated : List ℕ → Option ℕ → Siblings → Unread
updated file time t = refilled time (whole file t)

-- the size in bytes of the blob of a tree with reservations, without free room
abbrev pub packed_size : List Reservation → Unread → ℕ
packed_size rs t = totalsize (plan_with (ends_at 4) rs t)

-- the size of a blob that was packed and then needs another, with room: if it needs more, it gets as
-- many times 1024 bytes, as mkimage gives them; if it needs less, it has what it needs
abbrev pub with_room : ℕ → ℕ → ℕ
with_room packed needed =
    if nat_le needed packed then needed else packed + (needed - packed + 1023) / 1024 * 1024

-- The nodes are those of a file's tree, updated, the entries those of its reservation block, and the
-- size is that of their blob with its room.
pub record IsUpdated (file : List ℕ) (time : Option ℕ) (nodes : Unread) (rs : List Reservation)
    (size : ℕ) : Type 0 where
  pub found : Siblings
  pub read : tree file ≡ Ok found
  pub reserves : reservations_of file ≡ Some rs
  pub is : nodes ≡ updated file time found
  pub room : size ≡ with_room (packed_size rs (whole file found)) (packed_size rs nodes)
