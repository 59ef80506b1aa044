-- How the values of properties are printed.
use Rattle.std.specs.Prelude.{ℕ, zero, suc, min, ◌-◌, List, [], ◌∷◌, ◌++◌, length, drop, not, ◌==◌}
use Rattle.std.specs.{Prelude.{if◌then◌else◌, codes}, List.position_or_len}
use Rattle.uimg_texts.specs.Slices.{slice}
use Rattle.uimg_base.specs.declared.spans.Span.{Span}
use Rattle.hex.specs.Hex.{encode_lower}

-- the bytes of a range of a file
abbrev pub in_span : List ℕ → Span → List ℕ
in_span file span = slice file span.place span.length

-- hexadecimal digits without leading zeros, but at least eight
abbrev pub eight_or_more : List ℕ → List ℕ
eight_or_more digits =
    drop (min (position_or_len (λ d. not (d == 48)) digits) (length digits - 8)) digits

-- an address of one cell or of two, or `unavailable`
unfoldable pub address_text : List ℕ → List ℕ
address_text value =
    if length value == 4 then codes "0x" ++ encode_lower value
    else if length value == 8 then codes "0x" ++ eight_or_more (encode_lower value)
    else codes "unavailable"

-- the texts of a value, each up to a NUL or the value's end
abbrev pub onto : ℕ → List (List ℕ) → List (List ℕ)
onto b [] = (b ∷ []) ∷ []
onto b (piece ∷ pieces) = (b ∷ piece) ∷ pieces

unfoldable pub pieces : List ℕ → List (List ℕ)
pieces [] = []
pieces (zero ∷ bytes) = [] ∷ pieces bytes
pieces (suc b ∷ bytes) = onto (suc b) (pieces bytes)
