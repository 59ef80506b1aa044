-- The texts of names and values where two images are compared.
use Rattle.std.specs.Prelude.{ℕ, ◌+◌, List, [], ◌∷◌, ◌++◌, length, codes, decimal, Bool, true, false, not}
use Rattle.std.specs.Prelude.{◌==◌, ◌&&◌, ◌||◌, nat_le, nat_lt, if◌then◌else◌, Option, Some, None}
use Rattle.std.specs.List.{flat_map}
use Rattle.hex.specs.Hex.{encode_lower}
use Rattle.sha2.specs.Sha256.{sha256}
use Rattle.uimg_base.specs.declared.spans.Span.{Span}
use Rattle.uimg_fit_reading.specs.Values.{in_span, pieces}
use Rattle.uimg_printing.specs.Printing.{printed}

-- a text with an escape in place of a byte
abbrev pub escaped_byte : ℕ → List ℕ → ℕ → List ℕ
escaped_byte mark escape b = if b == mark then escape else b ∷ []

abbrev pub escaped : ℕ → List ℕ → List ℕ → List ℕ
escaped mark escape text = flat_map (escaped_byte mark escape) text

-- a name in a path: as in any line, and without slashes
abbrev pub name_text : List ℕ → List ℕ
name_text name = escaped 47 (codes "\\x2f") (printed false name)

-- a text in quotation marks, and without others
abbrev pub quoted : List ℕ → List ℕ
quoted piece =
    codes "\"" ++ (escaped 34 (codes "\\x22") (printed false piece) ++ codes "\"")

abbrev pub quoted_next : List ℕ → List ℕ
quoted_next piece = codes ", " ++ quoted piece

-- the texts of a value
abbrev pub strings_text : List (List ℕ) → List ℕ
strings_text [] = []
strings_text (piece ∷ pieces) = quoted piece ++ flat_map quoted_next pieces

-- whether a text is begun after a byte: a NUL ends one that is, and all other bytes are visible
-- ASCII
unfoldable pub after_byte : Bool → ℕ → Option Bool
after_byte begun b =
    if b == 0 then (if begun then Some false else None)
    else if nat_lt b 32 || nat_lt 126 b then None
    else Some true

-- whether bytes are texts, each of at least one byte and with a NUL after it; the first is begun or
-- not
unfoldable pub are_texts : Bool → List ℕ → Bool
are_texts begun [] = not begun
are_texts begun (b ∷ bytes) =
    elim (after_byte begun b) as (λ _. Bool)
    [ None ↦ false | Some now ↦ are_texts now bytes ]

-- a value of other bytes: a number of one cell or two, or all digits
unfoldable pub digits_text : List ℕ → List ℕ
digits_text value =
    if length value == 4 || length value == 8 then codes "0x" ++ encode_lower value
    else codes "[" ++ encode_lower value ++ codes "]"

-- a value in full
unfoldable pub full_text : List ℕ → List ℕ
full_text value =
    if nat_lt 0 (length value) && are_texts false value then strings_text (pieces value)
    else digits_text value

-- the size and the SHA-256 of bytes
abbrev pub digest_text : ℕ → List ℕ → List ℕ
digest_text size bytes = decimal size ++ codes " bytes sha256 " ++ encode_lower (sha256 bytes)

-- a value: in full, or by its size and SHA-256 if it has more than 128 bytes
unfoldable pub value_text : List ℕ → List ℕ
value_text value = if nat_lt 128 (length value) then digest_text (length value) value else full_text value

-- the same of the value at a span of a file, if it is in the file
unfoldable pub text_inside : List ℕ → Span → List ℕ
text_inside file span =
    if nat_le (span.place + span.length) (length file) then value_text (in_span file span) else []
