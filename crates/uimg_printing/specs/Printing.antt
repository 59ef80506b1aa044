-- Names in lines of text.
use Rattle.std.specs.Prelude.{ℕ, ◌/◌, ◌%◌, ◌==◌, ◌&&◌, ◌||◌, not, nat_le, nat_lt, List, [], ◌∷◌}
use Rattle.std.specs.Prelude.{◌++◌, codes, chars, encode_utf8, Bool, false, if◌then◌else◌}
use Rattle.std.specs.{Fmt.digit_glyph, List.{flat_map, list_all}, Str.is_utf8}
use Rattle.uimg_printing.specs.Hidden.{is_hidden}

-- the two hexadecimal digits of a byte
abbrev pub digits_of : ℕ → List ℕ
digits_of byte = digit_glyph false (byte / 16 % 16) ∷ digit_glyph false (byte % 16) ∷ []

-- a byte as \xNN
abbrev pub byte_text : ℕ → List ℕ
byte_text byte = codes "\\x" ++ digits_of byte

-- whether a character ends a word of a line: space, colon or comma
abbrev pub ends_word : ℕ → Bool
ends_word letter = letter == 32 || letter == 58 || letter == 44

-- a character, or its bytes as \xNN if it is hidden or would end a word
unfoldable pub letter_text : Bool → ℕ → List ℕ
letter_text is_word letter =
    if is_hidden letter
    || (is_word && ends_word letter) then flat_map byte_text
    (encode_utf8 letter) else encode_utf8 letter

-- a byte of a name that is not UTF-8
unfoldable pub odd_text : Bool → ℕ → List ℕ
odd_text is_word byte = if nat_lt byte 128 then letter_text is_word byte else byte_text byte

-- a name in a line, as one word or not
unfoldable pub printed : Bool → List ℕ → List ℕ
printed is_word name =
    if is_utf8 name then flat_map (letter_text is_word) (chars name) else flat_map
    (odd_text is_word) name

-- no byte is a control character of ASCII, so none ends a line
abbrev pub is_shown : List ℕ → Bool
is_shown = list_all (λ byte. nat_le 32 byte && not (byte == 127))
