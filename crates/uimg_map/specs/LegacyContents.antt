-- What is found in the file of a legacy image (U-Boot's image.h).
use Rattle.std.specs.Prelude.{ℕ, ◌+◌, ◌*◌, List, [], ◌∷◌, length, nat_lt, if◌then◌else◌, Bool, true}
use Rattle.std.specs.Prelude.{false, Result, Ok, Err}
use Rattle.uimg_texts.specs.Numbers.{up4}
use Rattle.uimg_legacy.specs.declared.{header.Header.Header, fault.LegacyFault.LegacyFault}
use Rattle.uimg_legacy.specs.declared.fault.LegacyFault.TheVariants.{BadHeaderCrc, Truncated}
use Rattle.uimg_legacy.specs.{declared.fault.LegacyFault.TheVariants.PartOutside, Header.header}
use Rattle.uimg_legacy.specs.{Image.payload, Parts.{has_parts, part_sizes}}
use Rattle.uimg_legacy.specs.declared.fault.Fault.TheVariants as of
use Rattle.uimg_map.specs.declared.fault.MapFault.{MapFault, TheVariants.Legacy}
use Rattle.uimg_map.specs.Found.{the_header, the_table, the_data, part_at, the_padding, Told}
use Rattle.uimg_map.specs.Found.{found_then, nothing, thing, refused_at, refused_behind}

-- the fault of a legacy image
abbrev pub legacy_fault : LegacyFault → MapFault
legacy_fault fault = Legacy (of.Legacy fault)

-- the fault is that the header's CRC is wrong
abbrev pub is_bad_crc : LegacyFault → Bool
is_bad_crc BadHeaderCrc = true
is_bad_crc _ = false

-- a refused header is still one if its CRC is wrong, with the fault there, else at the start
abbrev pub refused_with : Bool → LegacyFault → Told
refused_with true fault = found_then (thing the_header 0 64) (refused_at 4 (legacy_fault fault))
refused_with false fault = refused_at 0 (legacy_fault fault)

abbrev pub refused_header : LegacyFault → Told
refused_header fault = refused_with (is_bad_crc fault) fault

-- the header of `count` bytes of data in a file of `size`; data that end after it are a fault
abbrev pub header_told : ℕ → ℕ → Told
header_told size count =
    found_then (thing the_header 0 64) (refused_behind size (64 + count) (legacy_fault Truncated))

-- the bytes from the end of a part up to the next one, if there are any and it is not the last
abbrev pub padding_told : ℕ → Bool → Told
padding_told stop true = nothing
padding_told stop false =
    if nat_lt stop (up4 stop) then thing the_padding stop (up4 stop) else nothing

-- a part and the padding after it; a part that ends after the data is a fault
abbrev pub part_told : Bool → ℕ → ℕ → ℕ → Bool → Told
part_told true at number size last =
    found_then (thing (part_at number) at (at + size)) (refused_at at (legacy_fault PartOutside))
part_told false at number size last =
    found_then (thing (part_at number) at (at + size)) (padding_told (at + size) last)

-- whether no more sizes follow
abbrev pub is_end : List ℕ → Bool
is_end [] = true
is_end (size ∷ sizes) = false

-- The parts of these sizes, the first at an offset and with a number, in data up to `end`: each
-- begins after the one before, rounded up to a multiple of 4; one that ends after the data is last.
unfoldable pub parts_told : ℕ → ℕ → ℕ → List ℕ → Told
parts_told end at number [] = nothing
parts_told end at number (size ∷ sizes) = found_then
    (part_told (nat_lt end (at + size)) at number size (is_end sizes))
    (if nat_lt end (at + size) then nothing else parts_told end (up4 (at + size)) (number + 1)
    sizes)

-- The table of sizes with its zero word, and the parts. A table without an end takes all the data,
-- and is a fault unless the data are truncated.
abbrev pub endless_told : ℕ → ℕ → LegacyFault → Told
endless_told size count fault = found_then
    (thing the_table 64 (64 + count))
    (if nat_lt size (64 + count) then nothing else refused_at (64 + count) (legacy_fault fault))

abbrev pub table_told : ℕ → ℕ → Result (List ℕ) LegacyFault → Told
table_told size count (Ok sizes) = found_then
    (thing the_table 64 (64 + 4 * (length sizes + 1)))
    (parts_told (64 + count) (64 + 4 * (length sizes + 1)) 0 sizes)
table_told size count (Err fault) = endless_told size count fault

-- the data of a header: parts, for a type with parts
abbrev pub data_told : List ℕ → Header → Bool → Told
data_told file h true = table_told (length file) h.size (part_sizes (payload file h))
data_told file h false = thing the_data 64 (64 + h.size)

abbrev pub legacy_told : List ℕ → Result Header LegacyFault → Told
legacy_told file (Ok h) =
    found_then (header_told (length file) h.size) (data_told file h (has_parts h.kind))
legacy_told file (Err fault) = refused_header fault

-- the header, then the data
unfoldable pub legacy_contents : List ℕ → Told
legacy_contents file = legacy_told file (header file)
