-- How many bytes of the strings block a signature signs (U-Boot's fit_config_check_sig).
use Rattle.std.specs.Prelude.{ℕ, List, Option, Some, None, Result, Ok, Err, codes, not, nat_lt}
use Rattle.std.specs.Prelude.{◌==◌, if◌then◌else◌}
use Rattle.uimg_texts.specs.{Numbers.be32, Slices.slice}
use Rattle.uimg_base.specs.declared.spans.Span.{Span}
use Rattle.uimg_blob_reading.specs.{Plain.NamedOf, LookUps.first}
use Rattle.uimg_signing.specs.declared.faults.SigningFault.{SigningFault}
use Rattle.uimg_signing.specs.declared.faults.SigningFault.TheVariants.{BadStrings, StringsOffset}
use Rattle.uimg_signing.specs.declared.faults.SigningFault.TheVariants.{StringsOutside}

-- the size in a value of two cells, in a strings block of `most` bytes: the first cell, an offset in
-- that block, is 0
abbrev pub size_in : List ℕ → ℕ → Result ℕ SigningFault
size_in value most =
    if not (be32 value 0 == 0) then Err StringsOffset
    else if nat_lt most (be32 value 4) then Err StringsOutside else Ok (be32 value 4)

-- the same for the value at a span
abbrev pub cells_in : List ℕ → ℕ → Span → Result ℕ SigningFault
cells_in file most s =
    if not (s.length == 8) then Err BadStrings else size_in (slice file s.place 8) most

-- the size, if there is the property
abbrev pub strings_at : List ℕ → Option Span → Result ℕ SigningFault
strings_at file None = Ok 0
strings_at file (Some s) = cells_in file (be32 file 32) s

-- the size that these properties say
abbrev pub strings_of : List ℕ → List (NamedOf Span) → Result ℕ SigningFault
strings_of file own = strings_at file (first own (codes "hashed-strings"))
