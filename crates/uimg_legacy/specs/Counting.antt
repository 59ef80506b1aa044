-- How many parts an image has.
use Rattle.std.specs.Prelude.{ℕ, List, length, Result, Ok, Bool, true, false}
use Rattle.uimg_base.specs.Results.{◌>>=◌}
use Rattle.uimg_legacy.specs.{declared.fault.{LegacyFault.LegacyFault, Fault.Fault}, Faults.Gives}
use Rattle.uimg_legacy.specs.{declared.header.Header.Header, Image.{payload, legacy}}
use Rattle.uimg_legacy.specs.Parts.{has_parts, part_sizes}

-- the number of sizes in the table; for another type one, the data
abbrev pub count_in_data : Bool → List ℕ → Result ℕ LegacyFault
count_in_data true payload = do
  table ← part_sizes payload
  Ok (length table)
count_in_data false payload = Ok 1

-- the number of parts of an image, or the first fault
abbrev pub count_of : List ℕ → Result ℕ LegacyFault
count_of image = do
  it ← legacy image
  count_in_data (has_parts it.header.kind) it.payload

-- the result is the number of parts of an image with this header, or why its table is refused
abbrev pub CountsIn : Header → List ℕ → Result ℕ Fault → Type 0
CountsIn h image result =
    Gives (λ count. count) result (count_in_data (has_parts h.kind) (payload image h))

-- the same for an image whose header is read first
abbrev pub CountsOf : List ℕ → Result ℕ Fault → Type 0
CountsOf image result = Gives (λ count. count) result (count_of image)
