-- Legacy images that are built from parts.
use Rattle.std.specs.Prelude.{ℕ, ◌-◌, List, [], ◌∷◌, ◌++◌, length, replicate, nat_lt, ◌==◌, ◌&&◌}
use Rattle.std.specs.Prelude.{if◌then◌else◌, Result, Ok, Err, Bool, true, false}
use Rattle.std.specs.{Int.{to_be_bytes, w32}, List.{flat_map, list_any}}
use Rattle.uimg_sums.specs.Crc.{crc}
use Rattle.uimg_base.specs.Outcome.{Outcome, done, told, unless_refused}
use Rattle.uimg_legacy.specs.{declared.header.Header.Header, Header.spelled, Parts.has_parts}
use Rattle.uimg_legacy.specs.declared.{options.Options.Options, fault.LegacyFault.LegacyFault}
use Rattle.uimg_legacy.specs.declared.fault.LegacyFault.TheVariants.{EmptyPart, TooLarge}
use Rattle.uimg_texts.specs.Numbers.{up4}

-- the zeros that pad n bytes to a multiple of 4
abbrev pub padding : ℕ → List ℕ
padding n = replicate (up4 n - n) 0

-- the parts one after another, each but the last padded to a multiple of 4
unfoldable pub joined : List (List ℕ) → List ℕ
joined [] = []
joined (last ∷ []) = last
joined (part ∷ next ∷ more) = part ++ padding (length part) ++ joined (next ∷ more)

-- the size of each part as a word, then a zero word (mkimage(1), image type multi)
unfoldable pub size_table : List (List ℕ) → List ℕ
size_table parts = flat_map (λ part. to_be_bytes w32 (length part)) parts ++ to_be_bytes w32 0

-- the data: for a type with parts the table of sizes and the parts, for any other the one file
abbrev pub data_of : Bool → List (List ℕ) → List ℕ
data_of true parts = size_table parts ++ joined parts
data_of false parts = joined parts

-- the data built for a type
abbrev pub data_for : ℕ → List (List ℕ) → List ℕ
data_for kind parts = data_of (has_parts kind) parts

-- the header of this data, with the fields of the options
abbrev pub header_for : Options → List ℕ → Header
header_for options payload = record {
  time = options.time;
  size = length payload;
  load = options.load;
  ep = options.ep;
  dcrc = crc payload;
  os = options.os;
  arch = options.arch;
  kind = options.kind;
  comp = options.comp;
  name = options.name;
}

-- the header's 64 bytes, then the data
abbrev pub legacy_image : Options → List ℕ → List ℕ
legacy_image options payload = spelled (header_for options payload) ++ payload

-- the image built from parts
abbrev pub legacy_built : Options → List (List ℕ) → List ℕ
legacy_built options parts = legacy_image options (data_of (has_parts options.kind) parts)

-- whether a part is empty
unfoldable pub has_empty : List (List ℕ) → Bool
has_empty parts = list_any (λ part. length part == 0) parts

-- The data, or the first fault: a part is empty, or the data have more than 4294967295 bytes.
unfoldable pub data_to_build : ℕ → List (List ℕ) → Result (List ℕ) LegacyFault
data_to_build kind parts =
    if has_parts kind && has_empty parts then Err EmptyPart
    else if nat_lt 4294967295 (length (data_of (has_parts kind) parts)) then Err TooLarge
    else Ok (data_of (has_parts kind) parts)

-- building writes the image, or nothing if the parts are refused
abbrev pub build_of : Options → List (List ℕ) → Outcome LegacyFault
build_of options parts =
    unless_refused (data_to_build options.kind parts)
    (λ payload. told (legacy_image options payload) done)
