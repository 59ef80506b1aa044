-- What an extraction writes.
use Rattle.std.specs.Prelude.{ℕ, List, length, slice_index, nat_le, ◌==◌, if◌then◌else◌, Result, Ok}
use Rattle.std.specs.Prelude.{Err, Bool, true, false}
use Rattle.uimg_texts.specs.Slices.{slice}
use Rattle.uimg_base.specs.{Outcome.{Outcome, done, told, unless_refused}, Results.◌>>=◌}
use Rattle.uimg_legacy.specs.{declared.fault.LegacyFault.LegacyFault, Image.legacy}
use Rattle.uimg_legacy.specs.declared.fault.LegacyFault.TheVariants.{PartOutside, NoSuchPart}
use Rattle.uimg_legacy.specs.Parts.{has_parts, part_sizes, start, is_outside}

-- the part at a position, if the table has one and it ends inside the data
unfoldable pub listed_part : List ℕ → List ℕ → ℕ → Result (List ℕ) LegacyFault
listed_part payload table position =
    if nat_le (length table) position then Err NoSuchPart
    else if is_outside payload table position then Err PartOutside
    else Ok (slice payload (start table position) (slice_index table position))

-- the data of a single file, at position 0
unfoldable pub single : List ℕ → ℕ → Result (List ℕ) LegacyFault
single payload position = if position == 0 then Ok payload else Err NoSuchPart

-- for a type with parts the part at a position, for any other the data
abbrev pub part_of_data : Bool → List ℕ → ℕ → Result (List ℕ) LegacyFault
part_of_data true payload position = do
  table ← part_sizes payload
  listed_part payload table position
part_of_data false payload position = single payload position

-- the part of an image at a position, or the first fault
abbrev pub part_at : List ℕ → ℕ → Result (List ℕ) LegacyFault
part_at image position = do
  it ← legacy image
  part_of_data (has_parts it.header.kind) it.payload position

-- an extraction writes exactly that part, or nothing
abbrev pub extract_of : List ℕ → ℕ → Outcome LegacyFault
extract_of image position = unless_refused (part_at image position) (λ bytes. told bytes done)
