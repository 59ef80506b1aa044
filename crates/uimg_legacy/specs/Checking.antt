-- Whether an image and its parts are whole, and the checksum of its data is right.
use Rattle.std.specs.Prelude.{ℕ, List, ⊤, Result, Ok, Bool, true}
use Rattle.uimg_base.specs.{Results.◌>>=◌, declared.spans.Span.Span}
use Rattle.uimg_legacy.specs.{declared.fault.{LegacyFault.LegacyFault, Fault.Fault}, Faults.Gives}
use Rattle.uimg_legacy.specs.{declared.header.Header.Header, Header.header, Image.{payload, has_right_data}}
use Rattle.uimg_legacy.specs.Placing.{places_in, spans_of_parts}

-- the same without the spans
abbrev pub if_placed : Result (List Span) LegacyFault → Result ⊤ LegacyFault
if_placed found = do
  spans ← found
  Ok tt

-- an image with this header has its data and its parts, or the first fault: truncated, no table
-- end, part outside
abbrev pub has_its_parts : List ℕ → Header → Result ⊤ LegacyFault
has_its_parts image h = if_placed (spans_of_parts image h)

-- whether the checksum of the data is right, or the first fault: too short, bad magic, bad header
-- CRC, or one of the parts
abbrev pub checked : List ℕ → Result Bool LegacyFault
checked image = do
  h ← header image
  whole ← has_its_parts image h
  has_right_data image h

abbrev pub Checks : List ℕ → Result Bool Fault → Type 0
Checks image result = Gives (λ right. right) result (checked image)

-- the result is whether an image with this header has its parts
abbrev pub ChecksParts : Header → List ℕ → Result ⊤ Fault → Type 0
ChecksParts h image result = Gives (λ it. it) result (has_its_parts image h)

-- the same by its table
abbrev pub ChecksTable : Header → List ℕ → Result ⊤ Fault → Type 0
ChecksTable h image result =
    Gives (λ it. it) result (if_placed (places_in true (payload image h) h.size))
