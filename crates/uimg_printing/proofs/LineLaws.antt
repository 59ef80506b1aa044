-- The text of an object is one line.
use Rattle.std.proofs.Common.{◌≡◌, ℕ, zero, suc, ◌+◌, ◌/◌, ◌%◌, ◌<◌, ◌==◌, Bool, true, false, cond, ◌&&◌, nat_lt, if◌then◌else◌, List, [], ◌∷◌, ◌++◌, inl, inr, refl, ap, ap₂, ◌∙◌, arith, decimal}
use Rattle.std.proofs.lemmas.Bool.{and_parts, cases_lt, cases_eq, le-leb}
use Rattle.std.proofs.lemmas.List.Folds.{list_all-append}
use Rattle.std.specs.Fmt.{digit_glyph, digits, digits_onto}
use Rattle.json.{specs.Token.Token, proofs.Printed.Strings.escape_byte_plain}
use Rattle.json.specs.Print.{escape_byte, escape, quoted, token_text, separator, begins, ends, print_from}
use Rattle.uimg_printing.specs.Objects.{is_one_line}

-- two such texts are one
pub joined : (xs ys : List ℕ) → is_one_line xs ≡ true → is_one_line ys ≡ true → is_one_line (xs ++ ys) ≡ true
joined xs ys p q = list_all-append _ xs ys ∙ ap₂ (λ (a b : Bool). a && b) p q

-- the escapes of the bytes below n are such texts
abbrev escapes_below : ℕ → Bool
escapes_below zero = true
escapes_below (suc n) = is_one_line (escape_byte n) && escapes_below n

escape_below : (n : ℕ) → escapes_below n ≡ true → (x : ℕ) → x < n → is_one_line (escape_byte x) ≡ true
escape_below zero e x h = absurd (omega arith)
escape_below (suc n) e x h =
    let p = and_parts _ _ e in
    elim (cases_eq x n) [ inl same ↦ rw same p.0 | inr other ↦ escape_below n p.1 x (omega arith) ]

all_below : escapes_below 128 ≡ true
unfolding escape_byte
all_below = refl

escaped : (x : ℕ) → is_one_line (escape_byte x) ≡ true
escaped x = elim (cases_lt x 128) [
  | inl small ↦ escape_below 128 all_below x small
  | inr big ↦ rw (escape_byte_plain x (λ e. omega arith) (λ e. omega arith) (omega arith)) (joined (x ∷ []) [] (ap (λ b. b && true) (le-leb 32 x (omega arith))) refl)
]

all_escaped : (s : List ℕ) → is_one_line (escape s) ≡ true
all_escaped [] = refl
all_escaped (x ∷ xs) = joined (escape_byte x) (escape xs) (escaped x) (all_escaped xs)

pub in_quotes : (s : List ℕ) → is_one_line (quoted s) ≡ true
in_quotes s = joined (34 ∷ []) (escape s ++ 34 ∷ []) refl (joined (escape s) (34 ∷ []) (all_escaped s) refl)

-- the digits of a number
glyph : (d : ℕ) → is_one_line (digit_glyph false d ∷ []) ≡ true
glyph d = by_test (nat_lt d 10)
  where
    by_test : (b : Bool) → is_one_line ((if b then 48 + d else 87 + d) ∷ []) ≡ true
    by_test true = ap (λ b. b && true) (le-leb 32 (48 + d) (omega arith))
    by_test false = ap (λ b. b && true) (le-leb 32 (87 + d) (omega arith))

-- the last digit, and the digits before it where there are some
digits_before : (last : Bool) (k n : ℕ) (rest : List ℕ) → is_one_line rest ≡ true → is_one_line (digits_onto k 10 false n rest) ≡ true → is_one_line (if last then rest else digits_onto k 10 false n rest) ≡ true
digits_before true k n rest p q = p
digits_before false k n rest p q = q

some_digits : (k n : ℕ) (rest : List ℕ) → is_one_line rest ≡ true → is_one_line (digits_onto k 10 false n rest) ≡ true
some_digits zero n rest h = h
some_digits (suc k) n rest h =
    let more = joined (digit_glyph false (n % 10) ∷ []) rest (glyph (n % 10)) h in
    digits_before (n / 10 == 0) k (n / 10) (digit_glyph false (n % 10) ∷ rest) more (some_digits k (n / 10) (digit_glyph false (n % 10) ∷ rest) more)

pub number : (n : ℕ) → is_one_line (decimal n) ≡ true
unfolding digits
number n = some_digits 64 n [] refl

-- a comma or nothing
comma : (b : Bool) → is_one_line (cond b (44 ∷ []) []) ≡ true
comma true = refl
comma false = refl

-- one token before others
pub token_then : (after : Bool) (t : Token) (ts : List Token) → is_one_line (token_text t) ≡ true → is_one_line (print_from (ends t) ts) ≡ true → is_one_line (print_from after (t ∷ ts)) ≡ true
unfolding print_from
token_then after t ts p q = joined (separator after t) (token_text t ++ print_from (ends t) ts) (comma (after && begins t)) (joined (token_text t) (print_from (ends t) ts) p q)
