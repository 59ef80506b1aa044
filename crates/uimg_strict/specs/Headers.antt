-- What strictness refuses of a legacy image (U-Boot's image.h).
use Rattle.std.specs.Prelude.{◌==◌, ℕ, List, Bool, not, if◌then◌else◌, Option, Some, None}
use Rattle.std.specs.Prelude.{Result, Ok}
use Rattle.std.specs.List.{list_any}
use Rattle.uimg_base.specs.Results.{◌>>=◌}
use Rattle.uimg_legacy.specs.declared.fault.Fault.{Fault}
use Rattle.uimg_legacy.specs.declared.fault.LegacyFault.{LegacyFault}
use Rattle.uimg_legacy.specs.declared.header.Header.{Header}
use Rattle.uimg_legacy.specs.Faults.{Gives}
use Rattle.uimg_legacy.specs.Header.{header}
use Rattle.uimg_texts.specs.declared.field.Field.{Field}
use Rattle.uimg_texts.specs.declared.field.Field.TheVariants.{Kind, Architecture, System}
use Rattle.uimg_texts.specs.declared.field.Field.TheVariants.{Compression}
use Rattle.uimg_texts.specs.Naming.{rows}
use Rattle.uimg_strict.specs.declared.loose.Looseness.{Looseness}
use Rattle.uimg_strict.specs.declared.loose.Looseness.TheVariants.{EmptyData, UnknownType}
use Rattle.uimg_strict.specs.declared.loose.Looseness.TheVariants.{UnknownArchitecture}
use Rattle.uimg_strict.specs.declared.loose.Looseness.TheVariants.{UnknownSystem}
use Rattle.uimg_strict.specs.declared.loose.Looseness.TheVariants.{UnknownCompression}

-- whether a name of a field has this code
abbrev pub has_code : Field → ℕ → Bool
has_code field code = list_any (λ row. code == row.code) (rows field)

-- what is refused of a header: no data, or a code without a name
abbrev pub loose_header : Header → Option Looseness
loose_header h =
    if h.size == 0 then Some EmptyData
    else if not (has_code Kind h.kind) then Some UnknownType
    else if not (has_code Architecture h.arch) then Some UnknownArchitecture
    else if not (has_code System h.os) then Some UnknownSystem
    else if not (has_code Compression h.comp) then Some UnknownCompression
    else None

-- what is refused of a legacy image, or its first fault
abbrev pub loose_legacy : List ℕ → Result (Option Looseness) LegacyFault
loose_legacy file = do
  h ← header file
  Ok (loose_header h)

-- The result is what is refused, or the fault, unless a read failed.
abbrev pub TellsHeader : List ℕ → Result (Option Looseness) Fault → Type 0
TellsHeader file result = Gives (λ why. why) result (loose_legacy file)
