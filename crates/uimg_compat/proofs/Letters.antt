-- The letters of a word, one after another.
use Rattle.std.proofs.Common.{◌≡◌, ◌∙◌, ◌==◌, ◌<◌, ℕ, Bool, true, false, refl, ap, sym, subst, arith, List, [], ◌∷◌, Option, Some, None, length, find, option_map, eqb-true, lt-ltb, Result}
use Rattle.std.specs.Str.{bytes_eq}
use Rattle.std.specs.Prelude.{codes}
use Rattle.uimg_compat.specs.Getopt.{Row, Text, Behind, Reading, Waiting, Takes, behind, met, with_letter, lettered, valued, first_letter, mistaken, unknown_letter, letter_without_value, told, flag, value, operand, all_read, read, opened, optioned, long}
use Rattle.uimg_compat.specs.declared.getopt.{Given.Given, Misuse.Misuse}

cut_off : (letter : ℕ) (letters rest : Text) → Some rest ≡ behind letter letters → letters ≡ letter ∷ rest
cut_off letter [] rest cut = cc
cut_off letter (x ∷ xs) rest cut = go (x == letter) refl
  where
    go : (b : Bool) → (x == letter) ≡ b → x ∷ xs ≡ letter ∷ rest
    go false e = let gone : behind letter (x ∷ xs) ≡ None = rw e refl in cc
    go true e =
        let same : x ≡ letter = eqb-true x letter e in
        let one : behind letter (x ∷ xs) ≡ Some xs = rw e refl in
        cc

pub met_is : (rows : List Row) (letters : Text) (letter : ℕ) (row : Row) (rest : Text) → letter < 128
    → Some row ≡ find (λ row. row.letter == letter) rows → Some rest ≡ behind letter letters → Some (row, rest) ≡ met rows letters
met_is rows letters letter row rest low found cut =
    let is = cut_off letter letters rest cut in
    rw (is, lt-ltb letter 128 low, sym found) refl

-- the letter of a row that was found
pub found_letter : (rows : List Row) (letter : ℕ) (row : Row) → Some row ≡ find (λ row. row.letter == letter) rows → row.letter ≡ letter
found_letter [] letter row found = cc
found_letter (other ∷ rows) letter row found = go (found_letter rows letter row) (other.letter == letter) refl
  where
    go : (Some row ≡ find (λ row. row.letter == letter) rows → row.letter ≡ letter) → (b : Bool) → (other.letter == letter) ≡ b → row.letter ≡ letter
    go more false e = let step : find (λ row. row.letter == letter) (other ∷ rows) ≡ find (λ row. row.letter == letter) rows = rw e refl in more (found ∙ step)
    go more true e =
        let same : other.letter ≡ letter = eqb-true other.letter letter e in
        let step : find (λ row. row.letter == letter) (other ∷ rows) ≡ Some other = rw e refl in
        let it : row ≡ other = cc in
        ap (λ r. r.letter) it ∙ same

pub letter_is : (rows : List Row) (letters : Text) (letter : ℕ) (row : Row) (rest : Text)
    → Some row ≡ find (λ row. row.letter == letter) rows → Some rest ≡ behind letter letters → letters ≡ row.letter ∷ rest
letter_is rows letters letter row rest found cut = cut_off letter letters rest cut ∙ ap (λ l. l ∷ rest) (sym (found_letter rows letter row found))

pub no_letters : (rows : List Row) (letters : Text) (next : Behind) → length letters ≡ 0 → lettered rows letters next ≡ next None
unfolding lettered
no_letters rows [] next h = refl
no_letters rows (x ∷ xs) next h = absurd (omega arith)

abbrev after : List Row → Text → Behind → Option (Row × Text) → Reading
after rows letters next None = mistaken (unknown_letter (first_letter letters))
after rows letters next (Some (row, rest)) = elim row.has_value [ true ↦ valued row.letter rest next | false ↦ told (flag row.letter) (lettered rows rest next) ]

abbrev raw : List Row → Text → Text → Behind → Option Row → Reading
raw rows letters rest next o = elim o [
  | None ↦ mistaken (unknown_letter (first_letter letters))
  | Some row ↦ elim row.has_value [ true ↦ valued row.letter rest next | false ↦ told (flag row.letter) (lettered rows rest next) ]
]

one_letter : (rows : List Row) (x : ℕ) (rest : Text) (next : Behind)
    → lettered rows (x ∷ rest) next ≡ raw rows (x ∷ rest) rest next (with_letter x rows)
unfolding lettered
one_letter rows x rest next = refl

raw_is : (rows : List Row) (letters rest : Text) (next : Behind) (o : Option Row)
    → raw rows letters rest next o ≡ after rows letters next (option_map (λ row. (row, rest)) o)
raw_is rows letters rest next None = refl
raw_is rows letters rest next (Some row) = refl

pub next_letter : (rows : List Row) (letters : Text) (next : Behind) (o : Option (Row × Text)) → 0 < length letters → o ≡ met rows letters
    → lettered rows letters next ≡ after rows letters next o
next_letter rows [] next o some is = absurd (omega arith)
next_letter rows (x ∷ rest) next o some is =
    one_letter rows x rest next ∙ raw_is rows (x ∷ rest) rest next (with_letter x rows) ∙ ap (after rows (x ∷ rest) next) (sym is)

pub unknown : (rows : List Row) (letters : Text) (next : Behind) → 0 < length letters → None ≡ met rows letters
    → lettered rows letters next ≡ mistaken (unknown_letter (first_letter letters))
unknown rows letters next some is = next_letter rows letters next None some is

pub flag_next : (rows : List Row) (letters : Text) (next : Behind) (row : Row) (rest : Text) → 0 < length letters → Some (row, rest) ≡ met rows letters
    → row.has_value ≡ false → lettered rows letters next ≡ told (flag row.letter) (lettered rows rest next)
flag_next rows letters next row rest some is h = next_letter rows letters next (Some (row, rest)) some is ∙ rw h refl

value_after : (letter : ℕ) (rest : Text) (next : Behind) → 0 < length rest → valued letter rest next ≡ told (value letter rest) (next None)
value_after letter [] next some = absurd (omega arith)
value_after letter (x ∷ rest) next some = refl

value_waits : (letter : ℕ) (rest : Text) (next : Behind) → length rest ≡ 0
    → valued letter rest next ≡ next (Some (record { letter = letter; missing = letter_without_value (letter ∷ []) }))
value_waits letter [] next h = refl
value_waits letter (x ∷ rest) next h = absurd (omega arith)

pub value_next : (rows : List Row) (letters : Text) (next : Behind) (row : Row) (rest : Text) → 0 < length letters → Some (row, rest) ≡ met rows letters
    → row.has_value ≡ true → 0 < length rest → lettered rows letters next ≡ told (value row.letter rest) (lettered rows [] next)
unfolding lettered
value_next rows letters next row rest some is h more =
    next_letter rows letters next (Some (row, rest)) some is ∙ rw h refl ∙ value_after row.letter rest next more

one_left : (letters : Text) (letter : ℕ) (rest : Text) → letters ≡ letter ∷ rest → length rest ≡ 0 → letter ∷ [] ≡ letters
one_left letters letter [] is none = sym is
one_left letters letter (x ∷ rest) is none = absurd (omega arith)

pub waits_next : (rows : List Row) (letters : Text) (next : Behind) (row : Row) (rest : Text) → 0 < length letters → Some (row, rest) ≡ met rows letters
    → row.has_value ≡ true → letters ≡ row.letter ∷ rest → length rest ≡ 0
    → lettered rows letters next ≡ next (Some (record { letter = row.letter; missing = letter_without_value letters }))
waits_next rows letters next row rest some is h are none =
    next_letter rows letters next (Some (row, rest)) some is ∙ rw h refl ∙ value_waits row.letter rest next none
    ∙ ap (λ l. next (Some (record { letter = row.letter; missing = letter_without_value l }))) (one_left letters row.letter rest are none)

-- the words behind

pub waited : (rows : List Row) (ws : List Text) (alone : Bool) (waiting : Waiting) (word : Text) (rest : List Text) (letters : Text) (after : Bool)
    → ws ≡ word ∷ rest → length letters ≡ 0 → after ≡ alone
    → read rows ws alone (Some waiting) ≡ told (value waiting.letter word) (lettered rows letters (read rows rest after))
waited rows ws alone waiting word rest letters after is none same =
    rw (is, no_letters rows letters (read rows rest after) none, same) refl

pub waited_in_vain : (rows : List Row) (ws : List Text) (alone : Bool) (waiting : Waiting) → ws ≡ []
    → read rows ws alone (Some waiting) ≡ mistaken waiting.missing
waited_in_vain rows ws alone waiting is = rw is refl

pub at_end : (rows : List Row) (ws : List Text) (alone : Bool) → ws ≡ [] → read rows ws alone None ≡ all_read
at_end rows ws alone is = rw is refl

pub operand_next : (rows : List Row) (ws : List Text) (alone : Bool) (word : Text) (rest : List Text) (letters : Text) (after : Bool)
    → ws ≡ word ∷ rest → alone ≡ true → length letters ≡ 0 → after ≡ alone
    → read rows ws alone None ≡ told (operand word) (lettered rows letters (read rows rest after))
operand_next rows ws alone word rest letters after is h none same =
    rw (is, no_letters rows letters (read rows rest after) none, same, h) refl

pub opened_next : (rows : List Row) (ws : List Text) (alone : Bool) (word : Text) (rest : List Text) → ws ≡ word ∷ rest → alone ≡ false
    → read rows ws alone None ≡ opened rows word (read rows rest)
opened_next rows ws alone word rest is h = rw (is, h) refl

pub no_hyphen : (rows : List Row) (word : Text) (rest : List Text) (letters : Text) (after : Bool) → None ≡ behind 45 word → length letters ≡ 0 → after ≡ false
    → opened rows word (read rows rest) ≡ told (operand word) (lettered rows letters (read rows rest after))
no_hyphen rows word rest letters after cut none same = rw (opened, sym cut, no_letters rows letters (read rows rest after) none, same) refl

pub lone : (rows : List Row) (word text : Text) (rest : List Text) (letters : Text) (after : Bool) → Some text ≡ behind 45 word → bytes_eq text [] ≡ true
    → length letters ≡ 0 → after ≡ false
    → opened rows word (read rows rest) ≡ told (operand word) (lettered rows letters (read rows rest after))
lone rows word text rest letters after cut is none same = rw (opened, sym cut, is, no_letters rows letters (read rows rest after) none, same) refl

pub behind_two : (rows : List Row) (word text : Text) (rest : List Text) → Some text ≡ behind 45 word → bytes_eq text [] ≡ false → bytes_eq text (codes "-") ≡ true
    → opened rows word (read rows rest) ≡ read rows rest true None
behind_two rows word text rest cut some is = rw (opened, sym cut, some, is) refl

pub more : (rows : List Row) (word text : Text) (rest : List Text) (after : Bool) → Some text ≡ behind 45 word → bytes_eq text [] ≡ false → bytes_eq text (codes "-") ≡ false
    → after ≡ false → opened rows word (read rows rest) ≡ optioned rows text (read rows rest after)
more rows word text rest after cut some is same = rw (opened, sym cut, some, is, same) refl

pub is_long : (rows : List Row) (text name : Text) (next : Behind) → Some name ≡ behind 45 text → optioned rows text next ≡ long rows name next
is_long rows text name next cut = rw (optioned, sym cut) refl

pub takes_as : (r : Result (Option Given) Misuse) (a b after : Reading) → a ≡ b → Takes r b after → Takes r a after
takes_as r a b after same h = subst (λ x. Takes r x after) (sym same) h

pub leaves_as : (r : Result (Option Given) Misuse) (before a b : Reading) → a ≡ b → Takes r before b → Takes r before a
leaves_as r before a b same h = subst (λ x. Takes r before x) (sym same) h
