-- The words of a source text (Devicetree Specification, chapter 6, this profile).
use Rattle.std.specs.Prelude.{ℕ, zero, suc, ◌+◌, List, [], ◌∷◌, take, Option, Some, None, Bool}
use Rattle.std.specs.Prelude.{◌||◌, ◌&&◌, not, nat_le, nat_eq, slice_index, ◌==◌, if◌then◌else◌}
use Rattle.std.specs.{Prelude.codes, Option.option_map, List.{prefix_len, starts_with}}
use Rattle.std.specs.Char.{is_ascii_digit, is_ascii_alphabetic}
use Rattle.uimg_its.specs.declared.tokens.Mark.{Mark, TheVariants.{BracketClose, Colon, Ampersand}}
use Rattle.uimg_its.specs.declared.tokens.Mark.TheVariants.{Slash, Comma, BraceOpen, BraceClose}
use Rattle.uimg_its.specs.declared.tokens.Mark.TheVariants.{Semicolon, Equals, Less, Greater}
use Rattle.uimg_its.specs.declared.tokens.Mark.TheVariants.{ParenOpen, ParenClose, BracketOpen}
use Rattle.uimg_its.specs.declared.tokens.Mark.TheVariants.{Apostrophe}
use Rattle.uimg_its.specs.Strings.{string_end, string_bytes}

-- A name, a directive (without its slashes), a string (its bytes), a mark, or a stray byte.
pub data Word : Type 0 where
  name : List ℕ → Word
  directive : List ℕ → Word
  text : List ℕ → Word
  mark : Mark → Word
  stray : Word

-- a space, tab, newline, vertical tab, form feed or carriage return
abbrev pub is_blank : ℕ → Bool
is_blank b = b == 32 || (nat_le 9 b && nat_le b 13)

-- letters, digits and , . _ + * # ? @ -
abbrev pub is_name_byte : ℕ → Bool
is_name_byte b =
    is_ascii_alphabetic b || is_ascii_digit b
    || b == 44 || b == 46 || b == 95 || b == 43 || b == 42 || b == 35 || b == 63 || b == 64
    || b == 45

-- letters, digits and -
abbrev pub is_directive_byte : ℕ → Bool
is_directive_byte b = is_ascii_alphabetic b || is_ascii_digit b || b == 45

-- the mark of a byte that is a word by itself
abbrev pub mark_of : ℕ → Option Mark
mark_of b =
    if b == 123 then Some BraceOpen
    else if b == 125 then Some BraceClose
    else if b == 59 then Some Semicolon
    else if b == 61 then Some Equals
    else if b == 60 then Some Less
    else if b == 62 then Some Greater
    else if b == 40 then Some ParenOpen
    else if b == 41 then Some ParenClose
    else if b == 91 then Some BracketOpen
    else if b == 93 then Some BracketClose
    else if b == 58 then Some Colon
    else if b == 38 then Some Ampersand
    else if b == 39 then Some Apostrophe
    else None

-- the length of a comment after its opening, up to the end of the first */
unfoldable pub comment : List ℕ → Option ℕ
comment [] = None
comment (b ∷ bs) =
    if starts_with nat_eq (b ∷ bs) (codes "*/") then Some 2 else option_map suc (comment bs)

-- The start of a text, with its length in bytes less one: a gap or a word.
pub data Piece : Type 0 where
  gap : ℕ → Piece
  word : Word → ℕ → Piece

-- a name word; a single comma is a mark
abbrev pub name_word : List ℕ → Word
name_word (b ∷ []) = if b == 44 then mark Comma else name (b ∷ [])
name_word bs = name bs

-- a comment, which must end
abbrev pub comment_piece : Option ℕ → Piece
comment_piece None = word stray 0
comment_piece (Some n) = gap (1 + n)

-- a directive of n bytes if a slash follows; otherwise a slash
abbrev pub directive_piece : ℕ → List ℕ → Piece
directive_piece zero bs = word (mark Slash) 0
directive_piece (suc n) bs =
    if slice_index bs (suc n) == 47 then word (directive (take (suc n) bs)) (n + 2) else word
    (mark Slash) 0

-- what begins with a slash before these bytes
abbrev pub slash_piece : List ℕ → Piece
slash_piece [] = word (mark Slash) 0
slash_piece (b ∷ bs) =
    if b == 42 then comment_piece (comment bs)
    else if b == 47 then gap (1 + prefix_len (λ c. not (c == 10)) bs)
    else directive_piece (prefix_len is_directive_byte (b ∷ bs)) (b ∷ bs)

-- a string, which must end
abbrev pub string_piece : List ℕ → Option ℕ → Piece
string_piece bs None = word stray 0
string_piece bs (Some n) = word (text (string_bytes 0 bs)) n

-- a mark, or not a word
abbrev pub mark_piece : Option Mark → Piece
mark_piece None = word stray 0
mark_piece (Some m) = word (mark m) 0

-- what begins with the byte b before the bytes bs
unfoldable pub piece : ℕ → List ℕ → Piece
piece b bs =
    if is_blank b then gap 0
    else if b == 47 then slash_piece bs
    else if is_name_byte b then word (name_word (b ∷ take (prefix_len is_name_byte bs) bs))
    (prefix_len is_name_byte bs)
    else if b == 34 then string_piece bs (string_end 0 bs)
    else mark_piece (mark_of b)

-- the words from a piece on; `behind n` are those after n further bytes
abbrev pub goes_on : Piece → (ℕ → List Word) → List Word
goes_on (gap n) behind = behind n
goes_on (word w n) behind = w ∷ behind n

-- The words of a text without its first k bytes.
unfoldable pub words_from : ℕ → List ℕ → List Word
words_from k [] = []
words_from (suc k) (b ∷ bs) = words_from k bs
words_from zero (b ∷ bs) = goes_on (piece b bs) (λ n. words_from n bs)

-- the words of a text, each as long as possible
abbrev pub words : List ℕ → List Word
words bs = words_from 0 bs
