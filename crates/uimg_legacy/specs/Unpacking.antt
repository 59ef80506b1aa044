-- The parts of a legacy image, as they are unpacked.
use Rattle.std.specs.Prelude.{◌≡◌, ⊤, ℕ, suc, ◌+◌, ◌*◌, List, [], ◌∷◌, ◌++◌, length, take, drop}
use Rattle.std.specs.Prelude.{nat_lt, ◌==◌, if◌then◌else◌, Option, Some, None, Result, Ok, Err}
use Rattle.std.specs.{Prelude.{Bool, true, false, IsTrue, ◌⊎◌}, List.AllByRecursion}
use Rattle.uimg_texts.specs.Numbers.{up4}
use Rattle.uimg_base.specs.{Lent.Lent, Device.Device, Outcome.{done, told}, Results.◌>>=◌}
use Rattle.uimg_sums.specs.Crc.{crc}
use Rattle.uimg_legacy.specs.{declared.header.Header.Header, Parts.{has_parts, part_sizes}}
use Rattle.uimg_legacy.specs.declared.fault.LegacyFault.{LegacyFault, TheVariants.NoSuchPart}
use Rattle.uimg_legacy.specs.declared.fault.LegacyFault.TheVariants.{Truncated, PartOutside}
use Rattle.uimg_legacy.specs.declared.fault.Fault.{Fault, TheVariants.{Legacy, Read, Put}}
use Rattle.uimg_legacy.specs.{Header.header as header_of, Image.payload, Extraction.extract_of}

-- a part of an image: its number and its bytes
pub record Part : Type 0 where
  pub number : ℕ
  pub bytes : List ℕ

-- a part before others, unless these are refused
abbrev pub part_before : List ℕ → Result (List (List ℕ)) LegacyFault
    → Result (List (List ℕ)) LegacyFault
part_before part (Ok parts) = Ok (part ∷ parts)
part_before part (Err fault) = Err fault

-- Parts of these sizes, each padded to a multiple of 4, unless one ends after the bytes.
unfoldable pub parts_by : List ℕ → List ℕ → Result (List (List ℕ)) LegacyFault
parts_by [] bytes = Ok []
parts_by (size ∷ more) bytes =
    if nat_lt (length bytes) size then Err PartOutside
    else part_before (take size bytes) (parts_by more (drop (up4 size) bytes))

-- whether the requested part exists, if one is requested
abbrev pub is_there : Option ℕ → ℕ → Bool
is_there None count = true
is_there (Some number) count = nat_lt number count

abbrev pub if_there : {X : Type 0} → Option ℕ → ℕ → Result X LegacyFault → Result X LegacyFault
if_there only count found = if is_there only count then found else Err NoSuchPart

-- for a type with parts those after the table and its zero word, for any other the data
abbrev pub parts_in : Option ℕ → Bool → List ℕ → Result (List (List ℕ)) LegacyFault
parts_in only true bytes = do
  table ← part_sizes bytes
  if_there only (length table) (parts_by table (drop (4 * (length table + 1)) bytes))
parts_in only false bytes = if_there only 1 (Ok (bytes ∷ []))

-- whether a part is requested: all are, or one by its number
abbrev pub is_part_asked : Option ℕ → ℕ → Bool
is_part_asked None number = true
is_part_asked (Some asked) number = asked == number

-- a part if it is requested, else none
abbrev pub part_if : Bool → ℕ → List ℕ → List Part
part_if true number bytes = record { number = number; bytes = bytes } ∷ []
part_if false number bytes = []

-- the requested parts, numbered from `number` on
unfoldable pub chosen_parts : Option ℕ → ℕ → List (List ℕ) → List Part
chosen_parts only number [] = []
chosen_parts only number (bytes ∷ more) =
    part_if (is_part_asked only number) number bytes ++ chosen_parts only (suc number) more

-- the data after the header, if the image has them
unfoldable pub data_there : List ℕ → Header → Result (List ℕ) LegacyFault
data_there image h =
    if nat_lt (length image) (64 + h.size) then Err Truncated else Ok (payload image h)

-- the requested parts, if the data's CRC is that in the header
abbrev pub kept_if : Bool → List Part → Option (List Part)
kept_if true parts = Some parts
kept_if false parts = None

-- the same for the data after this header; its own faults: no table end, no such part, part outside
abbrev pub unpacked : Option ℕ → Header → List ℕ → Result (Option (List Part)) LegacyFault
unpacked only h bytes = do
  parts ← parts_in only (has_parts h.kind) bytes
  Ok (kept_if (crc bytes == h.dcrc) (chosen_parts only 0 parts))

-- The unpacked parts, or a fault: too short, bad magic, bad header CRC, truncated, of the data.
abbrev pub unpack_of : Option ℕ → List ℕ → Result (Option (List Part)) LegacyFault
unpack_of only image = do
  h ← header_of image
  bytes ← data_there image h
  unpacked only h bytes

-- Parts of an image were kept, after those before.
pub record KeepsParts (told : Result (Option (List Part)) LegacyFault) (old new : List Part)
    : Type 0 where
  pub parts : List Part
  pub is : told ≡ Ok (Some parts)
  pub kept : new ≡ old ++ parts

-- What a result says of an image and of the kept parts. Nothing is kept if the image is refused,
-- its data's CRC is wrong or a read failed. At a failed write its parts may be kept already.
abbrev pub UnpacksBetween : Result Bool Fault → Result (Option (List Part)) LegacyFault → List Part
    → List Part → Type 0
UnpacksBetween (Ok true) told old new = KeepsParts told old new
UnpacksBetween (Ok false) told old new = (told ≡ Ok None) × (new ≡ old)
UnpacksBetween (Err (Legacy fault)) told old new = (told ≡ Err fault) × (new ≡ old)
UnpacksBetween (Err Read) told old new = new ≡ old
UnpacksBetween (Err Put) told old new = (new ≡ old) ⊎ KeepsParts told old new

-- there are parts, and the data's CRC is right
abbrev pub HasRightParts : Result (Option (List Part)) LegacyFault → Type 0
HasRightParts (Ok (Some parts)) = ⊤
HasRightParts (Ok None) = ⊥
HasRightParts (Err fault) = ⊥

-- What a result says of an image, whatever becomes of the parts.
abbrev pub EndsAs : Result Bool Fault → Result (Option (List Part)) LegacyFault → Type 0
EndsAs (Ok true) told = HasRightParts told
EndsAs (Ok false) told = told ≡ Ok None
EndsAs (Err (Legacy fault)) told = told ≡ Err fault
EndsAs (Err Read) told = ⊤
EndsAs (Err Put) told = ⊤

-- the same for an honest source and an honest taker
abbrev pub Unpacks : {S T : Type 0} → Option ℕ → Result Bool Fault → (S → Device) → Lent S → Bool
    → (T → List Part) → Lent T → Type 0
Unpacks only result device source honest kept taker =
    IsTrue (device source.entry.now).honest → IsTrue honest
    → UnpacksBetween result (unpack_of only (device source.entry.now).bytes) (kept taker.entry.now)
    (kept taker.exit.now)

-- What is kept, whatever the source returned: the parts of some image with right checksums.
pub record KeepsSome (only : Option ℕ) (old new : List Part) : Type 0 where
  pub image : List ℕ
  pub keeps : KeepsParts (unpack_of only image) old new

-- The held parts are those of some image with right checksums; `dcrc` is that of its data.
pub record AreRight (dcrc : ℕ) (held : List Part) : Type 0 where
  -- all parts, or the one of this number
  pub only : Option ℕ
  -- some image: that of the source, if that is honest, is not claimed here
  pub image : List ℕ
  pub h : Header
  -- its header, whose checksum is right
  pub read : header_of image ≡ Ok h
  pub sum : h.dcrc ≡ dcrc
  -- the checksum of its data is right, and these are its parts
  pub told : unpack_of only image ≡ Ok (Some held)

-- the same of a result; nothing is kept unless all is right, and perhaps at a failed write
abbrev pub KeepsRightBetween : Option ℕ → Result Bool Fault → List Part → List Part → Type 0
KeepsRightBetween only (Ok true) old new = KeepsSome only old new
KeepsRightBetween only (Ok false) old new = new ≡ old
KeepsRightBetween only (Err Put) old new = (new ≡ old) ⊎ KeepsSome only old new
KeepsRightBetween only (Err fault) old new = new ≡ old

-- the same for an honest taker
abbrev pub KeepsRight : {T : Type 0} → Option ℕ → Result Bool Fault → Bool → (T → List Part)
    → Lent T → Type 0
KeepsRight only result honest kept taker =
    IsTrue honest → KeepsRightBetween only result (kept taker.entry.now) (kept taker.exit.now)

-- Parts were kept, after those before, and each is what an extraction from its position writes.
pub record KeepsExtracted (image : List ℕ) (old new : List Part) : Type 0 where
  pub parts : List Part
  pub kept : new ≡ old ++ parts
  pub each : AllByRecursion (λ part. extract_of image part.number ≡ told part.bytes done) parts

-- the same, if the result says that parts are kept
abbrev pub ExtractsBetween : List ℕ → Result Bool Fault → List Part → List Part → Type 0
ExtractsBetween image (Ok true) old new = KeepsExtracted image old new
ExtractsBetween image (Ok false) old new = ⊤
ExtractsBetween image (Err fault) old new = ⊤

-- the same for an honest source and an honest taker
abbrev pub Extracts : {S T : Type 0} → Result Bool Fault → (S → Device) → Lent S → Bool
    → (T → List Part) → Lent T → Type 0
Extracts result device source honest kept taker =
    IsTrue (device source.entry.now).honest → IsTrue honest
    → ExtractsBetween (device source.entry.now).bytes result (kept taker.entry.now)
    (kept taker.exit.now)
