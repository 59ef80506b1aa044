-- Where all parts of an image are in its file.
use Rattle.std.specs.Prelude.{◌≡◌, ℕ, zero, suc, ◌+◌, ⊤, List, [], ◌∷◌, ◌++◌, length, slice_index}
use Rattle.std.specs.Prelude.{nat_lt, if◌then◌else◌, Result, Ok, Err, Bool, true, false, IsTrue, IfOk}
use Rattle.uimg_texts.specs.Slices.{slice}
use Rattle.uimg_base.specs.{Lent.Lent, Device.Device, Results.◌>>=◌, declared.spans.Span.Span}
use Rattle.uimg_legacy.specs.declared.{fault.LegacyFault.LegacyFault, header.Header.Header}
use Rattle.uimg_legacy.specs.declared.fault.Fault.{Fault}
use Rattle.uimg_legacy.specs.declared.fault.LegacyFault.TheVariants.{PartOutside, Truncated}
use Rattle.uimg_legacy.specs.{declared.placing.PartsFault.PartsFault, Image.{payload, legacy}}
use Rattle.uimg_legacy.specs.declared.placing.PartsFault.TheVariants.{Stopped, OutOfMemory}
use Rattle.uimg_legacy.specs.Parts.{has_parts, sizes, part_sizes, start, is_outside}
use Rattle.uimg_legacy.specs.declared.fault.Fault.TheVariants as of

-- the span of a part in the file
abbrev pub span_of_part : List ℕ → ℕ → Span
span_of_part table i = record { place = 64 + start table i; length = slice_index table i }

-- the span of the part at a position: one of the table for a type with parts, for any other that of
-- the data
abbrev pub span_in : Bool → List ℕ → ℕ → ℕ → Span
span_in true payload size position = span_of_part (sizes payload) position
span_in false payload size position = record { place = 64; length = size }

-- the same in an image, or why it is refused
abbrev pub span_at : List ℕ → ℕ → Result Span LegacyFault
span_at image position = do
  it ← legacy image
  Ok (span_in (has_parts it.header.kind) it.payload it.header.size position)

-- spans before others, unless these are refused
abbrev pub spans_before : List Span → Result (List Span) LegacyFault
    → Result (List Span) LegacyFault
spans_before ps (Ok qs) = Ok (ps ++ qs)
spans_before ps (Err fault) = Err fault

-- a span, unless its part ends after the data
abbrev pub place_step : Bool → Span → Result (List Span) LegacyFault
    → Result (List Span) LegacyFault
place_step true p rest = Err PartOutside
place_step false p rest = spans_before (p ∷ []) rest

-- the spans of n parts from part i on, unless one ends after the data
unfoldable pub places : List ℕ → List ℕ → ℕ → ℕ → Result (List Span) LegacyFault
places payload table zero i = Ok []
places payload table (suc n) i =
    place_step (is_outside payload table i) (span_of_part table i) (places payload table n (i + 1))

-- for a type with parts the spans of its table, for any other that of the data
abbrev pub places_in : Bool → List ℕ → ℕ → Result (List Span) LegacyFault
places_in true payload size = do
  table ← part_sizes payload
  places payload table (length table) 0
places_in false payload size = Ok (record { place = 64; length = size } ∷ [])

-- the spans for an image with this header, if it has all its data
unfoldable pub spans_of_parts : List ℕ → Header → Result (List Span) LegacyFault
spans_of_parts image h =
    if nat_lt (length image) (64 + h.size) then Err Truncated else places_in (has_parts h.kind)
    (payload image h) h.size

-- A found part of a table with `count` sizes has the span of the part at a position.
abbrev pub ListsSpan : ℕ → ℕ → ℕ → List ℕ → Result Span Fault → Type 0
ListsSpan size count position image result = count ≡ length (sizes (slice image 64 size))
    → IfOk result (λ span. span ≡ span_of_part (sizes (slice image 64 size)) position)

-- A found part of an image with this header has the span of the part at a position.
abbrev pub FindsSpan : Header → ℕ → List ℕ → Result Span Fault → Type 0
FindsSpan h position image result =
    IfOk result (λ span. span ≡ span_in (has_parts h.kind) (payload image h) h.size position)

-- the same for an image whose header is read first
abbrev pub LocatesSpan : ℕ → List ℕ → Result Span Fault → Type 0
LocatesSpan position image result = IfOk result (λ span. span_at image position ≡ Ok span)

-- the result is a failed read
abbrev pub is_unread : {X : Type 0} → Result X PartsFault → Bool
is_unread (Err (Stopped of.Read)) = true
is_unread _ = false

-- The result is the spans or the fault of a definition, unless a read failed or memory was refused.
abbrev pub GivesPlaces : {X : Type 0} → (X → List Span) → Result X PartsFault
    → Result (List Span) LegacyFault → Type 0
GivesPlaces view (Ok x) r = r ≡ Ok (view x)
GivesPlaces view (Err (Stopped (of.Legacy fault))) r = r ≡ Err fault
GivesPlaces view (Err (Stopped of.Read)) r = ⊤
GivesPlaces view (Err (Stopped of.Put)) r = ⊥
GivesPlaces view (Err OutOfMemory) r = ⊤

-- Over an honest source whose table has `count` sizes: the spans of its parts, or their fault.
abbrev pub TellsSpans : {S X : Type 0} → (X → List Span) → ℕ → ℕ → Result X PartsFault
    → (S → Device) → Lent S → Type 0
TellsSpans view size count result device source = IsTrue (device source.entry.now).honest
    → count ≡ length (sizes (slice (device source.entry.now).bytes 64 size))
    → GivesPlaces view result (places (slice (device source.entry.now).bytes 64 size)
    (sizes (slice (device source.entry.now).bytes 64 size)) count 0)
