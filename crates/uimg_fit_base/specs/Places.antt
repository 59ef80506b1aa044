-- The span of an image's payload (Flattened Image Tree format, "External data").
use Rattle.std.specs.Prelude.{◌≡◌, ℕ, ⊤, ◌+◌, List, length, nat_lt, if◌then◌else◌, Option, Some}
use Rattle.std.specs.{Prelude.{None, Result, Ok, Err, codes}, Option.option_map}
use Rattle.uimg_texts.specs.{Slices.slice, Numbers.{be32, up4}}
use Rattle.uimg_base.specs.{Results.◌>>=◌, declared.spans.Span.Span}
use Rattle.uimg_blob_reading.specs.{Indexed.value_span, LookUps.{NodeOf, first}, Spots.Spot}
use Rattle.uimg_fit_base.specs.{declared.fault.Fault.{Fault, TheVariants.{Blob, Fit}}, Files.cell}
use Rattle.uimg_fit_base.specs.declared.fault.FitFault.{FitFault, TheVariants.{NoData, DataOutside}}

-- a span at an offset from a base, if offset and size are known
abbrev pub external : ℕ → Option ℕ → Option ℕ → Option Span
external base (Some at) (Some size) = Some (record { place = base + at; length = size })
external base at size = None

-- the span of a value in the blob
abbrev pub embedded : Option Span → Result Span FitFault
embedded (Some s) = Ok s
embedded None = Err NoData

-- the first of two spans that is known, or else the third
abbrev pub or_else : Option Span → Option Span → Result Span FitFault → Result Span FitFault
or_else (Some p) second third = Ok p
or_else None (Some p) third = Ok p
or_else None None third = third

-- The payload's span: at `data-position` from the file's start, else at `data-offset` from the
-- blob's end, rounded up to a multiple of 4, each with `data-size`; else that of the first `data`;
-- else there is none. Sums are of whole numbers: no limit of 32 or 64 bits cuts them.
abbrev pub place : List ℕ → NodeOf Spot → Result Span FitFault
place file image =
    or_else
    (external 0 (cell image.own (codes "data-position")) (cell image.own (codes "data-size")))
    (external (up4 (be32 file 4)) (cell image.own (codes "data-offset"))
    (cell image.own (codes "data-size")))
    (embedded (option_map value_span (first image.own (codes "data"))))

-- the bytes at a span, unless it ends after the file
unfoldable pub bytes_at : List ℕ → Span → Result (List ℕ) FitFault
bytes_at file p =
    if nat_lt (length file) (p.place + p.length) then Err DataOutside else Ok
    (slice file p.place p.length)

-- the payload of an image
abbrev pub payload : List ℕ → NodeOf Spot → Result (List ℕ) FitFault
payload file image = do
  p ← place file image
  bytes_at file p

-- what a result says of the span of an image's payload: where it is, or why there is none inside
-- the file
abbrev pub TellsPlace : List ℕ → NodeOf Spot → Result Span Fault → Type 0
TellsPlace file image (Ok p) = payload file image ≡ Ok (slice file p.place p.length)
TellsPlace file image (Err (Fit fault)) = payload file image ≡ Err fault
TellsPlace file image (Err (Blob fault at)) = ⊥
TellsPlace file image (Err _) = ⊤
