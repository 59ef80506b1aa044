-- What the steps of unpacking do, over any device.
use Rattle.std.specs.Prelude.{◌≡◌, ◌≢◌, ⊤, ℕ, ◌+◌, ◌-◌, ◌*◌, ◌<◌, ◌≤◌, min, List, ◌++◌, length}
use Rattle.std.specs.Prelude.{take, sum_by, ◌==◌, Option, Bool, true, false, Result, Ok, Err}
use Rattle.std.specs.{Prelude.{IsTrue, OnOk, ◌⊎◌}, List.AllByRecursion}
use Rattle.uimg_texts.specs.{Slices.slice, Numbers.{be32, up4}}
use Rattle.uimg_sums.specs.{Crc.crc, Adding.Adds, CrcSums.Holds, declared.crc.Crc.Crc}
use Rattle.uimg_base.specs.{Lent.Lent, Device.Device, Held.Held, Ranges.SumsRange}
use Rattle.uimg_legacy.specs.declared.{header.Header.Header, fault.LegacyFault.LegacyFault}
use Rattle.uimg_legacy.specs.declared.fault.LegacyFault.TheVariants.{BadDataCrc, PartOutside}
use Rattle.uimg_legacy.specs.declared.fault.Fault.{Fault, TheVariants.{Legacy, Read, Put}}
use Rattle.uimg_legacy.specs.declared.unpacking.takes.{Parts.Parts, PlacedPart.PlacedPart}
use Rattle.uimg_legacy.specs.{declared.unpacking.takes.Walk.Walk, Faults.{is_read, is_of_making}}
use Rattle.uimg_legacy.specs.{Words.whole_words, Image.payload, Header.header, Unpacking.parts_in}
use Rattle.uimg_legacy.specs.{Parts.{has_parts, sizes}, Work.{data_read, sizes_read_with}}
use Rattle.uimg_legacy.specs.Unpacking.{Part, part_if, is_part_asked, chosen_parts, parts_by}

-- A step that takes parts. An honest taker keeps nothing new.
pub record TakesBetween {X : Type 0} (used : Bool → Device → Device → Type 0)
    (result : Result X Fault) (old new : Device) (before after : Held) (honest : Bool)
    (from to : List Part) : Type 0 where
  pub uses : used (is_read result) old new
  pub room : after ≡ before
  pub no_making : is_of_making result ≡ false
  pub kept : IsTrue honest → to ≡ from

-- the same for a borrowed source, room and taker
abbrev pub Takes : {S T X : Type 0} → (Bool → Device → Device → Type 0) → Result X Fault
    → (S → Device) → Lent S → Lent Held → Bool → (T → List Part) → Lent T → Type 0
Takes used result device source room honest kept taker = TakesBetween used result
    (device source.entry.now) (device source.exit.now) room.entry.now room.exit.now honest
    (kept taker.entry.now) (kept taker.exit.now)

-- Some bytes were fed to a sum: those of a range of the device, if it is honest.
abbrev pub SumsPieceBetween : Device → ℕ → ℕ → Crc → Crc → Type 0
SumsPieceBetween = SumsRange (Adds Holds)

-- the same for a borrowed source and sum
abbrev pub SumsPiece : {S : Type 0} → ℕ → ℕ → (S → Device) → Lent S → Lent Crc → Type 0
SumsPiece at len device source sum =
    SumsPieceBetween (device source.entry.now) at len sum.entry.now sum.exit.now

-- Some bytes were fed to a sum, and held as a part if that is requested.
pub record TakesPartBetween (asked honest : Bool) (number : ℕ) (d : Device) (at len : ℕ)
    (old new : Crc) (from to : List Part) : Type 0 where
  pub sums : SumsPieceBetween d at len old new
  pub held : IsTrue honest → to ≡ from ++ part_if asked number sums.piece

-- the same unless a device failed
abbrev pub TakesPart : {X S T : Type 0} → Bool → PlacedPart → Result X Fault → (S → Device)
    → Lent S → Lent Crc → Bool → (T → List Part) → Lent T → Type 0
TakesPart asked part result device source sum honest held taker =
    OnOk result (TakesPartBetween asked honest part.number
    (device source.entry.now) part.at part.len sum.entry.now sum.exit.now (held taker.entry.now)
    (held taker.exit.now))

-- Some bytes were fed to a sum, and the first `len` of them held as a part if that is requested.
pub record TakesPaddedBetween (asked honest : Bool) (number : ℕ) (d : Device) (at len all : ℕ)
    (old new : Crc) (from to : List Part) : Type 0 where
  pub sums : SumsPieceBetween d at all old new
  pub held : IsTrue honest → to ≡ from ++ part_if asked number (take len sums.piece)

-- The next size was read, and its part taken with the bytes up to the next multiple of 4.
pub record TakesNextBetween (only : Option ℕ) (honest : Bool) (number size : ℕ) (d : Device)
    (old new : Walk) (from to : List Part) : Type 0 where
  pub word : List ℕ
  pub long : length word ≡ 4
  pub some : be32 word 0 ≢ 0
  pub fits : old.at + be32 word 0 ≤ size
  pub place : new.at ≡ min (old.at + up4 (be32 word 0)) size
  pub sizes : (fed : List ℕ) → Holds old.sizes fed → Holds new.sizes (fed ++ word)
  pub read : IsTrue d.honest → word ≡ slice d.bytes (64 + 4 * number) 4
  pub taken : TakesPaddedBetween (is_part_asked only number) honest number d (64 + old.at)
      (be32 word 0)
      (new.at - old.at) old.sum new.sum from to

-- the same at `Ok`
abbrev pub TakesNext : {X S T : Type 0} → Parts → ℕ → Result X Fault → (S → Device) → Lent S
    → Lent Walk → Bool → (T → List Part) → Lent T → Type 0
TakesNext parts number result device source walk honest held taker =
    OnOk result (TakesNextBetween parts.only honest number parts.size
    (device source.entry.now) walk.entry.now walk.exit.now (held taker.entry.now)
    (held taker.exit.now))

-- At `Ok` at most the bytes that the walk passed, and `more`, were requested.
abbrev pub PaysWalked : {X S : Type 0} → ℕ → Result X Fault → (S → Device) → Lent S → Lent Walk
    → Type 0
PaysWalked more result device source walk = OnOk result
    ((device source.exit.now).asked + walk.entry.now.at
    ≤ (device source.entry.now).asked + (more + walk.exit.now.at))

-- Why the next part is refused, if it is: it ends after the data, or its size, read again, is 0.
abbrev pub RefusesNext : {X : Type 0} → ℕ → ℕ → ℕ → Result X Fault → Type 0
RefusesNext at size word (Err (Legacy PartOutside)) = size < at + word
RefusesNext at size word (Err (Legacy BadDataCrc)) = word ≡ 0
RefusesNext at size word (Err (Legacy fault)) = ⊥
RefusesNext at size word result = ⊤

-- the same for the size of a number in the table
abbrev pub RefusesNumber : {X : Type 0} → ℕ → ℕ → ℕ → List ℕ → Result X Fault → Type 0
RefusesNumber number size at file result = RefusesNext at size (be32 file (64 + 4 * number)) result

-- The first `count` parts were taken: `table` is the bytes of their sizes as read, and `bytes`
-- those that the parts were cut from.
pub record Walked (only : Option ℕ) (honest : Bool) (count size : ℕ) (d : Device) (old new : Walk)
    (from to : List Part) : Type 0 where
  pub table : List ℕ
  pub bytes : List ℕ
  pub parts : List (List ℕ)
  pub long : length table ≡ 4 * count
  pub some : AllByRecursion (λ w. w ≢ 0) (whole_words table)
  pub place : old.at + length bytes ≡ new.at
  pub ends : new.at ≡ min (old.at + sum_by up4 (whole_words table)) size
  pub cut : parts_by (whole_words table) bytes ≡ Ok parts
  pub number : length parts ≡ count
  pub sizes : (fed : List ℕ) → Holds old.sizes fed → Holds new.sizes (fed ++ table)
  pub summed : (fed : List ℕ) → Holds old.sum fed → Holds new.sum (fed ++ bytes)
  pub read : IsTrue d.honest → table ≡ slice d.bytes 64 (4 * count)
  pub right : IsTrue d.honest → bytes ≡ slice d.bytes (64 + old.at) (length bytes)
  pub held : IsTrue honest → to ≡ from ++ chosen_parts only 0 parts

-- the same at `Ok`
abbrev pub Walks : {X S T : Type 0} → Parts → Result X Fault → (S → Device) → Lent S → Lent Walk
    → Bool → (T → List Part) → Lent T → Type 0
Walks parts result device source walk honest held taker =
    OnOk result (Walked parts.only honest parts.count parts.size
    (device source.entry.now) walk.entry.now walk.exit.now (held taker.entry.now)
    (held taker.exit.now))

-- A refusal of parts is that of a definition.
abbrev pub RefusesBy : {X Y : Type 0} → Result Y LegacyFault → Result X Fault → Type 0
RefusesBy told (Err (Legacy fault)) = told ≡ Err fault
RefusesBy told result = ⊤

-- A refusal is the first fault of the parts from an offset on; their table has `count` sizes.
abbrev pub RefusesFrom : {X : Type 0} → ℕ → ℕ → ℕ → List ℕ → Result X Fault → Type 0
RefusesFrom count size at file result =
    count ≡ length (sizes (slice file 64 size))
    → RefusesBy (parts_by (sizes (slice file 64 size)) (slice file (64 + at) (size - at))) result

-- The parts of some data with the header's CRC are held: of the device's data, if it is honest.
pub record HoldsParts (only : Option ℕ) (honest : Bool) (h : Header) (d : Device)
    (from to : List Part) : Type 0 where
  pub bytes : List ℕ
  pub parts : List (List ℕ)
  pub long : length bytes ≡ h.size
  pub sum : crc bytes ≡ h.dcrc
  pub cut : parts_in only (has_parts h.kind) bytes ≡ Ok parts
  pub right : IsTrue d.honest → bytes ≡ payload d.bytes h
  pub held : IsTrue honest → to ≡ from ++ chosen_parts only 0 parts

-- The data have parts, but another CRC.
pub record IsWrong (only : Option ℕ) (h : Header) (image : List ℕ) : Type 0 where
  pub parts : List (List ℕ)
  pub cut : parts_in only (has_parts h.kind) (payload image h) ≡ Ok parts
  pub wrong : (crc (payload image h) == h.dcrc) ≡ false

-- What a result says of the taken data: whether their CRC is right, or why they are refused.
abbrev pub TakesDataBetween : Option ℕ → Bool → Header → Device → Result Bool Fault → List Part
    → List Part → Type 0
TakesDataBetween only honest h d (Ok true) from to = HoldsParts only honest h d from to
TakesDataBetween only honest h d (Ok false) from to = IsTrue d.honest → IsWrong only h d.bytes
TakesDataBetween only honest h d (Err (Legacy fault)) from to =
    IsTrue d.honest → parts_in only (has_parts h.kind) (payload d.bytes h) ≡ Err fault
TakesDataBetween only honest h d (Err Read) from to = ⊤
TakesDataBetween only honest h d (Err Put) from to = ⊤

-- the same for a borrowed source and taker
abbrev pub TakesData : {S T : Type 0} → Option ℕ → Header → Result Bool Fault → (S → Device)
    → Lent S → Bool → (T → List Part) → Lent T → Type 0
TakesData only h result device source honest held taker =
    TakesDataBetween only honest h (device source.entry.now) result
    (held taker.entry.now) (held taker.exit.now)

-- The held parts were kept if the data's CRC is right, and perhaps if keeping failed; else nothing.
abbrev pub SettlesBetween : {E : Type 0} → Bool → Result Bool E → List Part → List Part → List Part
    → Type 0
SettlesBetween true (Ok kept) held old new = (kept ≡ true) × (new ≡ old ++ held)
SettlesBetween false (Ok kept) held old new = (kept ≡ false) × (new ≡ old)
SettlesBetween true (Err fault) held old new = (new ≡ old) ⊎ (new ≡ old ++ held)
SettlesBetween false (Err fault) held old new = new ≡ old

-- the same for an honest taker
abbrev pub Settles : {E T : Type 0} → Bool → Result Bool E → Bool → (T → List Part)
    → (T → List Part) → Lent T → Type 0
Settles right result honest held kept taker = IsTrue honest
    → SettlesBetween right result (held taker.entry.now) (kept taker.entry.now)
    (kept taker.exit.now)

-- the most bytes requested after the header: the data, and the table of sizes twice
abbrev pub unpack_reads : List ℕ → Result Header LegacyFault → ℕ
unpack_reads image (Ok h) =
    data_read image h + 8 * (sizes_read_with (has_parts h.kind) (payload image h) + 1)
unpack_reads image (Err fault) = 0

-- the most bytes requested of the data of a type with parts
abbrev pub listed_work : Header → List ℕ → ℕ
listed_work h image = h.size + 8 * (length (sizes (payload image h)) + 1)

-- the same for any type
abbrev pub data_work : Header → List ℕ → ℕ
data_work h image = h.size + 8 * (sizes_read_with (has_parts h.kind) (payload image h) + 1)

abbrev pub unpack_work : List ℕ → ℕ
unpack_work image = 64 + unpack_reads image (header image)
