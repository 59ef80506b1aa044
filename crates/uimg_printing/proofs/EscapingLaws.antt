-- An escaped text begins and ends no tag and no attribute, and has only the entities of every document.
use Rattle.std.proofs.Common.{◌≡◌, ℕ, ◌/◌, ◌%◌, ◌<◌, ◌≤◌, ◌==◌, Bool, true, false, ◌&&◌, if◌then◌else◌, List, [], ◌∷◌, ◌++◌, inl, inr, refl, ap, ap₂, ◌∙◌, arith, eqb-true}
use Rattle.std.specs.{Prelude.{chars, codes, encode_utf8}, Fmt.digit_glyph, List.{flat_map, list_all}}
use Rattle.std.proofs.lemmas.Bool.{and_parts, cases_lt}
use Rattle.std.proofs.lemmas.List.Folds.{list_all-append}
use lib.Utf8.{encode}
use Rattle.uimg_printing.specs.Escaping.{IsContent, amp, apos, entity, escaped, escaped_letter, gt, held, is_plain, is_unheld, lt, none, plain, quot}
use Rattle.uimg_printing.specs.Printing.{byte_text}
use Rattle.uimg_printing.proofs.PrintingLaws.{by_bool}
use Rattle.uimg_printing.proofs.ShownLaws.{all_below, below, encoded_high, encoded_low}

abbrev are_plain : List ℕ → Bool
are_plain = list_all is_plain

joined : (xs ys : List ℕ) → are_plain xs ≡ true → are_plain ys ≡ true → are_plain (xs ++ ys) ≡ true
joined xs ys p q = list_all-append _ xs ys ∙ ap₂ (λ (a b : Bool). a && b) p q

-- plain bytes before a content
plain_before : (bytes rest : List ℕ) → are_plain bytes ≡ true → IsContent rest → IsContent (bytes ++ rest)
plain_before [] rest p r = r
plain_before (byte ∷ bytes) rest p r =
    let parts = and_parts _ _ p in
    plain byte (bytes ++ rest) refl parts.0 (plain_before bytes rest parts.1 r)

-- the digits of a byte
abbrev digit_plain : ℕ → Bool
digit_plain d = are_plain (digit_glyph false d ∷ [])

digits_plain : all_below digit_plain 16 ≡ true
digits_plain = refl

byte_plain : (b : ℕ) → are_plain (byte_text b) ≡ true
byte_plain b =
    let first : are_plain (digit_glyph false (b / 16 % 16) ∷ []) ≡ true = below digit_plain 16 digits_plain (b / 16 % 16) (omega arith) in
    let second : are_plain (digit_glyph false (b % 16) ∷ []) ≡ true = below digit_plain 16 digits_plain (b % 16) (omega arith) in
    joined (92 ∷ 120 ∷ []) (digit_glyph false (b / 16 % 16) ∷ digit_glyph false (b % 16) ∷ []) refl
    (joined (digit_glyph false (b / 16 % 16) ∷ []) (digit_glyph false (b % 16) ∷ []) first second)

bytes_plain : (bytes : List ℕ) → are_plain (flat_map byte_text bytes) ≡ true
bytes_plain [] = refl
bytes_plain (b ∷ bytes) = joined (byte_text b) (flat_map byte_text bytes) (byte_plain b) (bytes_plain bytes)

-- a byte from 128 on is plain
not_equal : (b c : ℕ) → c < b → (b == c) ≡ false
not_equal b c h = by_bool (b == c) (λ same. absurd (omega (arith, h, eqb-true b c same))) (λ other. other)

high_plain : (b : ℕ) → 128 ≤ b → is_plain b ≡ true
high_plain b h = rw (not_equal b 38 (omega (arith, h)), not_equal b 60 (omega (arith, h)), not_equal b 62 (omega (arith, h)), not_equal b 34 (omega (arith, h)), not_equal b 39 (omega (arith, h))) refl

high : (b : ℕ) (rest : List ℕ) → 128 ≤ b → are_plain rest ≡ true → are_plain (b ∷ rest) ≡ true
high b rest h r = ap₂ (λ (x y : Bool). x && y) (high_plain b h) r

-- a character that is none of the five
letter_plain : (c : ℕ) → is_plain c ≡ true → are_plain (encode c) ≡ true
letter_plain c p = elim (cases_lt c 128) [
  | inl small ↦ ap are_plain (encoded_low c small) ∙ ap (λ b. b && true) p
  | inr big ↦ encoded_high are_plain refl high c big
]

held_by : (unheld : Bool) (c : ℕ) → is_plain c ≡ true → are_plain (if unheld then flat_map byte_text (encode_utf8 c) else encode_utf8 c) ≡ true
held_by true c p = bytes_plain (encode_utf8 c)
held_by false c p = letter_plain c p

held_plain : (c : ℕ) → is_plain c ≡ true → are_plain (held c) ≡ true
unfolding held
held_plain c p = held_by (is_unheld c) c p

-- a character before a content, by whether it is one of the five
abbrev Before : List ℕ → Type 0
Before text = (rest : List ℕ) → IsContent rest → IsContent (text ++ rest)

by_five : (c : ℕ) (a b d e f : Bool)
    → ((if a then false else (if b then false else (if d then false else (if e then false else (if f then false else true))))) ≡ true → Before (held c))
    → Before (if a then codes "&amp;" else (if b then codes "&lt;" else (if d then codes "&gt;" else (if e then codes "&quot;" else (if f then codes "&apos;" else held c)))))
by_five c true b d e f later rest r = entity (codes "amp") rest refl (amp refl) r
by_five c false true d e f later rest r = entity (codes "lt") rest refl (lt refl) r
by_five c false false true e f later rest r = entity (codes "gt") rest refl (gt refl) r
by_five c false false false true f later rest r = entity (codes "quot") rest refl (quot refl) r
by_five c false false false false true later rest r = entity (codes "apos") rest refl (apos refl) r
by_five c false false false false false later rest r = later refl rest r

letter_before : (c : ℕ) → Before (escaped_letter c)
unfolding escaped_letter
letter_before c = by_five c (c == 38) (c == 60) (c == 62) (c == 34) (c == 39) (λ p rest r. plain_before (held c) rest (held_plain c p) r)

letters : (cs : List ℕ) → IsContent (flat_map escaped_letter cs)
letters [] = none refl
letters (c ∷ cs) = letter_before c (flat_map escaped_letter cs) (letters cs)

-- whatever a text is
pub escaped_content : (text : List ℕ) → IsContent (escaped text)
unfolding escaped
escaped_content text = letters (chars text)
