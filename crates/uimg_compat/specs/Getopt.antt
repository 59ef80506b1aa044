-- What a command line gives, as getopt_long of the GNU C library reads it.
use Rattle.std.specs.Prelude.{◌≡◌, ◌==◌, ◌+◌, ◌-◌, ℕ, suc, get_or, Bool, true, false, List, [], ◌∷◌, length, map, filter, find, take, drop, Option, Some, None, option_map, ◌&&◌, Result, Ok, Err, codes, if◌then◌else◌, nat_lt}
use Rattle.std.specs.{List.{sum_by, starts_with, position_or_len, prefix_len, before_first, after_first}, Str.bytes_eq, Borrow.Bor}
use Rattle.uimg_compat.specs.declared.getopt.{Words.Words, Given.Given, Misuse.Misuse}
use Rattle.uimg_compat.specs.declared.getopt.Given.TheVariants as code
use Rattle.uimg_compat.specs.declared.getopt.Misuse.TheVariants as code_of

abbrev pub Text : Type 0
Text = List ℕ

-- an option: its letter, its long name (empty without one), and whether it has a value
pub record Row : Type 0 where
  pub letter : ℕ
  pub name : Text
  pub has_value : Bool

-- an option without a value, an option with its value, or a word that is no option
pub data Told : Type 0 where
  flag : ℕ → Told
  value : ℕ → Text → Told
  operand : Text → Told

-- Why words can't be read further: the letter or the long name.
pub data Mistake : Type 0 where
  unknown_letter : Text → Mistake
  unknown_name : Text → Mistake
  ambiguous_name : Text → Mistake
  letter_without_value : Text → Mistake
  name_without_value : Text → Mistake
  unwanted_value : Text → Mistake

-- what words give, one thing after another, to the end or to a mistake
pub data Reading : Type 0 where
  all_read : Reading
  mistaken : Mistake → Reading
  told : Told → Reading → Reading

-- An option whose value is the next word, and the mistake if no word follows.
pub record Waiting : Type 0 where
  pub letter : ℕ
  pub missing : Mistake

-- what the words behind give, by the option that waits for its value, if one does
abbrev pub Behind : Type 0
Behind = Option Waiting → Reading

-- Is a byte one of those behind the first of a letter (10xxxxxx)?
abbrev pub continues : ℕ → Bool
continues byte = if nat_lt byte 128 then false else nat_lt byte 192

-- The letter that letters begin with: their first byte, and the bytes that continue it.
abbrev pub first_letter : Text → Text
first_letter letters = take (suc (prefix_len continues (drop 1 letters))) letters

-- The letter of an option is one byte.
abbrev pub with_letter : ℕ → List Row → Option Row
with_letter letter rows =
    if nat_lt letter 128 then find (λ row. row.letter == letter) rows else None

-- A value is what follows the letter in its word, or else the next word.
abbrev pub valued : ℕ → Text → Behind → Reading
valued letter [] next =
    next (Some (record { letter = letter; missing = letter_without_value (letter ∷ []) }))
valued letter (byte ∷ rest) next = told (value letter (byte ∷ rest)) (next None)

-- the letters of a word, one option after another, then the words behind it
abbrev pub met : List Row → Text → Option (Row × Text)
met rows [] = None
met rows (letter ∷ rest) = option_map (λ row. (row, rest)) (with_letter letter rows)

unfoldable pub lettered : List Row → Text → Behind → Reading
lettered rows [] next = next None
lettered rows (letter ∷ rest) next = elim (with_letter letter rows) [
  | None ↦ mistaken (unknown_letter (first_letter (letter ∷ rest)))
  | Some row ↦ elim row.has_value [
    | true ↦ valued row.letter rest next
    | false ↦ told (flag row.letter) (lettered rows rest next)
  ]
]

-- the option that has this long name
abbrev pub called : List Row → Text → Option Row
called rows text =
    if nat_lt 0 (length text) then find (λ row. bytes_eq row.name text) rows else None

-- Does the long name of an option begin so?
abbrev pub is_begun : Text → Row → Bool
is_begun text row = nat_lt 0 (length row.name) && starts_with (λ a b. a == b) row.name text

-- the only one of the options whose names begin so
abbrev pub only : Text → List Row → Result Row Mistake
only text [] = Err (unknown_name text)
only text (row ∷ []) = Ok row
only text (row ∷ other ∷ rows) = Err (ambiguous_name text)

-- the same, where the first of them is known already
abbrev pub only_with : Text → Option Row → List Row → Result Row Mistake
only_with text None rows = only text rows
only_with text (Some row) rows = only text (row ∷ rows)

-- The option that has just this name, or else the only one whose name begins so.
abbrev pub named : List Row → Text → Result Row Mistake
named rows text = elim (called rows text) [
  | Some row ↦ Ok row
  | None ↦ only text (filter (is_begun text) rows)
]

-- an option by a long name: a value is joined to the name, or else the next word
abbrev pub long_option : Row → Text → Option Text → Behind → Reading
long_option row name joined next = elim row.has_value [
  | false ↦ elim joined [
    | None ↦ told (flag row.letter) (next None)
    | Some text ↦ mistaken (unwanted_value name)
  ]
  | true ↦ elim joined [
    | None ↦ next (Some (record { letter = row.letter; missing = name_without_value name }))
    | Some text ↦ told (value row.letter text) (next None)
  ]
]

-- what is before the first `=`, and what is behind it
abbrev pub name_in : Text → Text
name_in = before_first (λ byte. byte == 61)

abbrev pub joined_in : Text → Option Text
joined_in text = if nat_lt (position_or_len (λ byte. byte == 61) text) (length text)
    then Some (after_first (λ byte. byte == 61) text) else None

abbrev pub long : List Row → Text → Behind → Reading
long rows text next = elim (named rows (name_in text)) [
  | Err mistake ↦ mistaken mistake
  | Ok row ↦ long_option row (name_in text) (joined_in text) next
]

-- what follows a letter that a text begins with
abbrev pub behind : ℕ → Text → Option Text
behind letter [] = None
behind letter (byte ∷ rest) = if byte == letter then Some rest else None

-- what follows the hyphen of an option
abbrev pub optioned : List Row → Text → Behind → Reading
optioned rows text next = elim (behind 45 text) [
  | None ↦ lettered rows text next
  | Some name ↦ long rows name next
]

-- A word of a hyphen and a text, that no option waits for: a lone hyphen is an operand, behind two
-- hyphens there are only operands, a name follows two hyphens, and letters follow one.
abbrev pub hyphened : List Row → Text → Text → (Bool → Behind) → Reading
hyphened rows word text next = if bytes_eq text [] then told (operand word) (next false None)
    else (if bytes_eq text (codes "-") then next true None else optioned rows text (next false))

abbrev pub opened : List Row → Text → (Bool → Behind) → Reading
opened rows word next = elim (behind 45 word) [
  | None ↦ told (operand word) (next false None)
  | Some text ↦ hyphened rows word text next
]

-- What words give, where all are operands or not, and an option waits for its value or not.
abbrev pub read : List Row → List Text → Bool → Behind
read rows [] alone None = all_read
read rows [] alone (Some waiting) = mistaken waiting.missing
read rows (word ∷ words) alone (Some waiting) =
    told (value waiting.letter word) (read rows words alone None)
read rows (word ∷ words) true None = told (operand word) (read rows words true None)
read rows (word ∷ words) false None = opened rows word (read rows words)

-- what the words behind a program's name give
abbrev pub reading : List Row → List Text → Reading
reading rows words = read rows words false None

abbrev pub words_left : Words → List Text
words_left w = map (λ word. word.now) (drop w.next w.words.now)

-- the word that was read last, if one was
abbrev pub last_word : Words → Text
last_word w = get_or (map (λ word. word.now) (take w.next w.words.now)) (w.next - 1) []

-- The unread part of a command line: the letters of a word, and the words behind it.
abbrev pub behind_word : List Row → Words → Behind
behind_word rows w = read rows (words_left w) w.has_operands_alone

abbrev pub unread : List Row → Words → Reading
unread rows w = lettered rows w.letters.now (behind_word rows w)

-- the plain values of what code gives
abbrev pub row_of : ℕ × Bor Text × Bool → Row
row_of row = record { letter = row.0; name = row.1.now; has_value = row.2 }

abbrev pub told_of : Given → Told
told_of (code.Flag letter) = flag letter
told_of (code.Value letter text) = value letter text.now
told_of (code.Operand text) = operand text.now

abbrev pub mistake_of : Misuse → Mistake
mistake_of (code_of.UnknownLetter text) = unknown_letter text.0.now
mistake_of (code_of.UnknownName text) = unknown_name text.0.now
mistake_of (code_of.AmbiguousName text) = ambiguous_name text.0.now
mistake_of (code_of.NoValueOfLetter text) = letter_without_value text.0.now
mistake_of (code_of.NoValueOfName text) = name_without_value text.0.now
mistake_of (code_of.ValueNotWanted text) = unwanted_value text.0.now

-- The next of a reading is taken, and the rest of it is left.
abbrev pub Takes : Result (Option Given) Misuse → Reading → Reading → Type 0
Takes (Ok (Some given)) before after = before ≡ told (told_of given) after
Takes (Ok None) before after = before ≡ all_read
Takes (Err misuse) before after = before ≡ mistaken (mistake_of misuse)

-- Each option and each operand makes it less: the unread letters of a word, the bytes of the words
-- after it, and one for each of these words.
abbrev pub left : Words → ℕ
left w = length w.letters.now + sum_by (λ word. suc (length word.now)) (drop w.next w.words.now)
