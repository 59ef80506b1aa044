-- A name as it is printed has no control character of ASCII.
use Rattle.std.proofs.Common.{◌≡◌, ℕ, zero, suc, ◌+◌, ◌/◌, ◌%◌, ◌<◌, ◌≤◌, ◌==◌, Bool, true, false, not, ◌&&◌, ◌||◌, nat_lt, if◌then◌else◌, List, [], ◌∷◌, ◌++◌, inl, inr, refl, ap, ap₂, sym, ◌∙◌, arith, codes, decimal, ltb-true, lt-ltb, eqb-true}
use Rattle.std.specs.{Prelude.chars, Fmt.{digit_glyph, digits, digits_onto}, List.flat_map}
use Rattle.std.{specs.Str.is_utf8, proofs.lemmas.Bool.{and_parts, cases_lt, cases_eq, le-leb}}
use Rattle.std.proofs.lemmas.List.Folds.{list_all-append}
use lib.Utf8.{encode, next}
use Rattle.uimg_printing.specs.{Counting.counted, Hidden.is_hidden}
use Rattle.uimg_printing.specs.Printing.{byte_text, ends_word, letter_text, odd_text, printed, is_shown}
use Rattle.uimg_printing.proofs.PrintingLaws.{by_bool, printed_letters, printed_odd}

-- two such texts are one
pub joined : (xs ys : List ℕ) → is_shown xs ≡ true → is_shown ys ≡ true → is_shown (xs ++ ys) ≡ true
joined xs ys p q = list_all-append _ xs ys ∙ ap₂ (λ (a b : Bool). a && b) p q

-- what holds of each number below n
abbrev pub all_below : (ℕ → Bool) → ℕ → Bool
all_below p zero = true
all_below p (suc n) = p n && all_below p n

pub below : (p : ℕ → Bool) (n : ℕ) → all_below p n ≡ true → (x : ℕ) → x < n → p x ≡ true
below p zero e x h = absurd (omega arith)
below p (suc n) e x h =
    let q = and_parts _ _ e in
    elim (cases_eq x n) [ inl same ↦ rw same q.0 | inr other ↦ below p n q.1 x (omega arith) ]

abbrev digit_shown : ℕ → Bool
digit_shown d = is_shown (digit_glyph false d ∷ [])

digits_shown : all_below digit_shown 16 ≡ true
digits_shown = refl

byte_shown : (b : ℕ) → is_shown (byte_text b) ≡ true
byte_shown b =
    let first : is_shown (digit_glyph false (b / 16 % 16) ∷ []) ≡ true = below digit_shown 16 digits_shown (b / 16 % 16) (omega arith) in
    let second : is_shown (digit_glyph false (b % 16) ∷ []) ≡ true = below digit_shown 16 digits_shown (b % 16) (omega arith) in
    joined (92 ∷ 120 ∷ []) (digit_glyph false (b / 16 % 16) ∷ digit_glyph false (b % 16) ∷ []) refl
    (joined (digit_glyph false (b / 16 % 16) ∷ []) (digit_glyph false (b % 16) ∷ []) first second)

-- a letter of ASCII is hidden, or is shown
abbrev hidden_or_shown : ℕ → Bool
hidden_or_shown c = is_hidden c || is_shown (c ∷ [])

letters_shown : all_below hidden_or_shown 128 ≡ true
unfolding is_hidden
letters_shown = refl

or_right : (a b : Bool) → (a || b) ≡ true → a ≡ false → b ≡ true
or_right a b h not_a = ap (λ x. x || b) (sym not_a) ∙ h

not_equal : (b c : ℕ) → c < b → not (b == c) ≡ true
not_equal b c h = by_bool (b == c) (λ same. absurd (omega (arith, h, eqb-true b c same))) (λ other. ap not other)

ltb-no : (c n : ℕ) → n ≤ c → nat_lt c n ≡ false
ltb-no c n h = by_bool (nat_lt c n) (λ less. absurd (omega (arith, h, ltb-true c n less))) (λ more. more)

-- a byte from 128 on
high : (b : ℕ) (rest : List ℕ) → 128 ≤ b → is_shown rest ≡ true → is_shown (b ∷ rest) ≡ true
high b rest h r =
    joined (b ∷ []) rest (ap (λ x. x && true) (ap₂ (λ (x y : Bool). x && y) (le-leb 32 b (omega (arith, h))) (not_equal b 127 (omega (arith, h))))) r

abbrev bytes_text : List ℕ → List ℕ
bytes_text bytes = flat_map byte_text bytes

as_text : (b : ℕ) (rest : List ℕ) → is_shown (bytes_text rest) ≡ true → is_shown (bytes_text (b ∷ rest)) ≡ true
as_text b rest r = joined (byte_text b) (bytes_text rest) (byte_shown b) r

-- the bytes of a letter from 128 on: each is high
pub encoded_high : (p : List ℕ → Bool) → p [] ≡ true → ((b : ℕ) (rest : List ℕ) → 128 ≤ b → p rest ≡ true → p (b ∷ rest) ≡ true)
    → (c : ℕ) → 128 ≤ c → p (encode c) ≡ true
unfolding encode
encoded_high p none more c big =
    let last : p (next c ∷ []) ≡ true = more (next c) [] (omega arith) none in
    let two : p (next (c / 64) ∷ next c ∷ []) ≡ true = more (next (c / 64)) (next c ∷ []) (omega arith) last in
    let three : p (next (c / 4096) ∷ next (c / 64) ∷ next c ∷ []) ≡ true = more (next (c / 4096)) (next (c / 64) ∷ next c ∷ []) (omega arith) two in
    elim (cases_lt c 2048) [
      | inl first ↦ rw (ltb-no c 128 big, lt-ltb c 2048 first) (more (192 + c / 64) (next c ∷ []) (omega arith) last)
      | inr second ↦ elim (cases_lt c 65536) [
        | inl third ↦ rw (ltb-no c 128 big, ltb-no c 2048 second, lt-ltb c 65536 third) (more (224 + c / 4096) (next (c / 64) ∷ next c ∷ []) (omega arith) two)
        | inr fourth ↦ rw (ltb-no c 128 big, ltb-no c 2048 second, ltb-no c 65536 fourth) (more (240 + c / 262144) (next (c / 4096) ∷ next (c / 64) ∷ next c ∷ []) (omega arith) three)
      ]
    ]

pub encoded_low : (c : ℕ) → c < 128 → encode c ≡ c ∷ []
unfolding encode
encoded_low c small = rw (lt-ltb c 128 small) refl

letter_as_text : (c : ℕ) → is_shown (bytes_text (encode c)) ≡ true
letter_as_text c = elim (cases_lt c 128) [
  | inl small ↦ ap (λ l. is_shown (bytes_text l)) (encoded_low c small) ∙ as_text c [] refl
  | inr big ↦ encoded_high (λ l. is_shown (bytes_text l)) refl (λ b rest low h. as_text b rest h) c big
]

letter_itself : (c : ℕ) → is_hidden c ≡ false → is_shown (encode c) ≡ true
letter_itself c seen = elim (cases_lt c 128) [
  | inl small ↦ ap is_shown (encoded_low c small) ∙ or_right (is_hidden c) (is_shown (c ∷ [])) (below hidden_or_shown 128 letters_shown c small) seen
  | inr big ↦ encoded_high is_shown refl high c big
]

letter_by : (c : ℕ) (hides ends : Bool) → is_shown (bytes_text (encode c)) ≡ true → (hides ≡ false → is_shown (encode c) ≡ true)
    → is_shown (if hides || ends then bytes_text (encode c) else encode c) ≡ true
letter_by c true ends h k = h
letter_by c false true h k = h
letter_by c false false h k = k refl

letter_shown : (is_word : Bool) (c : ℕ) → is_shown (letter_text is_word c) ≡ true
unfolding letter_text
letter_shown is_word c = letter_by c (is_hidden c) (is_word && ends_word c) (letter_as_text c) (letter_itself c)

letters_all : (is_word : Bool) (cs : List ℕ) → is_shown (flat_map (letter_text is_word) cs) ≡ true
letters_all is_word [] = refl
letters_all is_word (c ∷ cs) = joined (letter_text is_word c) (flat_map (letter_text is_word) cs) (letter_shown is_word c) (letters_all is_word cs)

odd_by : (is_word : Bool) (b : ℕ) (small : Bool) → is_shown (if small then letter_text is_word b else byte_text b) ≡ true
odd_by is_word b true = letter_shown is_word b
odd_by is_word b false = byte_shown b

odd_shown : (is_word : Bool) (b : ℕ) → is_shown (odd_text is_word b) ≡ true
unfolding odd_text
odd_shown is_word b = odd_by is_word b (nat_lt b 128)

odds_all : (is_word : Bool) (name : List ℕ) → is_shown (flat_map (odd_text is_word) name) ≡ true
odds_all is_word [] = refl
odds_all is_word (b ∷ bs) = joined (odd_text is_word b) (flat_map (odd_text is_word) bs) (odd_shown is_word b) (odds_all is_word bs)

-- whatever a name is
pub shown : (is_word : Bool) (name : List ℕ) → is_shown (printed is_word name) ≡ true
shown is_word name = by_bool (is_utf8 name)
    (λ is. ap is_shown (printed_letters is_word name is) ∙ letters_all is_word (chars name))
    (λ bad. ap is_shown (printed_odd is_word name bad) ∙ odds_all is_word name)

-- the digits of a number
digits_before : (last : Bool) (k n : ℕ) (rest : List ℕ) → is_shown rest ≡ true → is_shown (digits_onto k 10 false n rest) ≡ true → is_shown (if last then rest else digits_onto k 10 false n rest) ≡ true
digits_before true k n rest p q = p
digits_before false k n rest p q = q

some_digits : (k n : ℕ) (rest : List ℕ) → is_shown rest ≡ true → is_shown (digits_onto k 10 false n rest) ≡ true
some_digits zero n rest h = h
some_digits (suc k) n rest h =
    let one : is_shown (digit_glyph false (n % 10) ∷ []) ≡ true = below digit_shown 16 digits_shown (n % 10) (omega arith) in
    let more = joined (digit_glyph false (n % 10) ∷ []) rest one h in
    digits_before (n / 10 == 0) k (n / 10) (digit_glyph false (n % 10) ∷ rest) more (some_digits k (n / 10) (digit_glyph false (n % 10) ∷ rest) more)

pub decimal_shown : (n : ℕ) → is_shown (decimal n) ≡ true
unfolding digits
decimal_shown n = some_digits 64 n [] refl

one_of : (b : Bool) (x y : List ℕ) → is_shown x ≡ true → is_shown y ≡ true → is_shown (if b then x else y) ≡ true
one_of true x y p q = p
one_of false x y p q = q

-- a number of things
pub counted_shown : (n : ℕ) (one many : List ℕ) → is_shown one ≡ true → is_shown many ≡ true → is_shown (counted n one many) ≡ true
unfolding counted
counted_shown n one many p q =
    let word : List ℕ = if n == 1 then one else many in
    joined (decimal n ++ codes " ") word (joined (decimal n) (codes " ") (decimal_shown n) refl) (one_of (n == 1) one many p q)
