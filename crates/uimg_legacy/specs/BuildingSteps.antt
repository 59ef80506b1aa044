-- What the steps of building an image return.
use Rattle.std.specs.Prelude.{◌≡◌, ℕ, ⊤, List, length, Result, Ok, Err}
use Rattle.uimg_legacy.specs.declared.{header.Header.Header, options.Options.Options}
use Rattle.uimg_legacy.specs.{declared.fault.Fault.{Fault, TheVariants.Legacy}, Parts.has_parts}
use Rattle.uimg_legacy.specs.Header.{header, spelled}
use Rattle.uimg_legacy.specs.Building.{data_of, data_for, data_to_build, header_for}

-- The result is the size of the data, or the fault of refused parts, unless a device failed.
abbrev pub MeasuresParts : ℕ → List (List ℕ) → Result ℕ Fault → Type 0
MeasuresParts kind parts (Ok size) =
    (data_to_build kind parts ≡ Ok (data_of (has_parts kind) parts))
    × (size ≡ length (data_of (has_parts kind) parts))
MeasuresParts kind parts (Err (Legacy fault)) = data_to_build kind parts ≡ Err fault
MeasuresParts kind parts (Err _) = ⊤

-- the bytes spell this header, and read back as it
pub record SpellsHeader (bytes : List ℕ) (h : Header) : Type 0 where
  pub spelled : bytes ≡ spelled h
  pub read : header bytes ≡ Ok h

-- the bytes spell the header of the data built from parts
abbrev pub IsHeadFor : Options → List (List ℕ) → List ℕ → Type 0
IsHeadFor options parts bytes =
    SpellsHeader bytes (header_for options (data_for options.kind parts))
