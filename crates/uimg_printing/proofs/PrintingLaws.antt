-- How a name is printed.
use Rattle.std.proofs.Common.{◌≡◌, ℕ, Bool, true, false, if◌then◌else◌, List, refl, ap}
use Rattle.std.specs.{Prelude.chars, List.flat_map, Str.{IsUtf8, is_utf8}}
use Rattle.std.proofs.lemmas.Str.{IsUtf8-from_is_utf8}
use Rattle.uimg_printing.specs.Printing.{letter_text, odd_text, printed}

pub by_bool : {P : Type 0} (b : Bool) → (b ≡ true → P) → (b ≡ false → P) → P
by_bool true p q = p refl
by_bool false p q = q refl

pub utf8_not : (t : List ℕ) → ¬ (IsUtf8 t) → is_utf8 t ≡ false
utf8_not t bad = by_bool (is_utf8 t) (λ e. absurd (bad (IsUtf8-from_is_utf8 t e))) (λ e. e)

pub printed_letters : (is_word : Bool) (name : List ℕ) → is_utf8 name ≡ true → printed is_word name ≡ flat_map (letter_text is_word) (chars name)
unfolding printed
printed_letters is_word name is = ap (λ (b : Bool). if b then flat_map (letter_text is_word) (chars name) else flat_map (odd_text is_word) name) is

pub printed_odd : (is_word : Bool) (name : List ℕ) → is_utf8 name ≡ false → printed is_word name ≡ flat_map (odd_text is_word) name
unfolding printed
printed_odd is_word name is = ap (λ (b : Bool). if b then flat_map (letter_text is_word) (chars name) else flat_map (odd_text is_word) name) is
