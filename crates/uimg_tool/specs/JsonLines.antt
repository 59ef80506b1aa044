-- JSON texts in which no control character is written as it is (RFC 8259, section 7).
use Rattle.std.specs.Prelude.{ℕ, ◌/◌, ◌%◌, ◌==◌, ◌&&◌, ◌||◌, nat_le, List, [], ◌∷◌, ◌++◌, codes}
use Rattle.std.specs.{Prelude.{Bool, false, if◌then◌else◌}, Fmt.digit_glyph}

-- whether a byte is DEL, or the second one of U+0080 to U+009F, whose first one is 0xc2
abbrev pub is_control : Bool → ℕ → Bool
is_control lead byte = byte == 127 || (lead && (nat_le 128 byte && nat_le byte 159))

-- a character below U+0100 as \u00NN
abbrev pub escape_of : ℕ → List ℕ
escape_of byte =
    codes "\\u00" ++ digit_glyph false (byte / 16) ∷ digit_glyph false (byte % 16) ∷ []

-- what a byte adds, after 0xc2 or not; 0xc2 waits for the next byte
unfoldable pub shown : Bool → ℕ → List ℕ
shown lead byte =
    if byte == 194 then [] else if is_control lead byte then escape_of byte else if
    lead then 194 ∷ byte ∷ [] else byte ∷ []

-- what a text adds
abbrev pub shown_from : Bool → List ℕ → List ℕ
shown_from lead [] = []
shown_from lead (byte ∷ bytes) = shown lead byte ++ shown_from (byte == 194) bytes

-- the line of a text
abbrev pub shown_line : List ℕ → List ℕ
shown_line text = shown_from false text ++ 10 ∷ []
