-- The number of the part whose file has a name.
use Rattle.std.proofs.Common.{rules, ◌≡◌, inl, inr, ℕ, zero, suc, ◌-◌, ◌^◌, ◌<◌, nat_lt, ◌==◌, List, ◌++◌, length, get_or, codes, decimal, Bool, true, false, ◌&&◌, not, refl, ap, sym, ◌∙◌, true≢false, arith}
use Rattle.std.specs.Char.{is_ascii_digit}
use Rattle.std.specs.List.{list_all}
use Rattle.std.specs.Prelude.{Result, Ok, Err}
use Rattle.std.specs.Result.{OkIff}
use Rattle.std.specs.Str.Parse.{ParsesUnsigned, digits_value}
use Rattle.std.proofs.lemmas.Bool.{and_parts, cases_eq, lt-ltb}
use Rattle.std.proofs.lemmas.Fmt.{decimal_digit, decimal-digits_value, first_decimal, parse-decimal}
use Rattle.std.proofs.lemmas.Str.Parse.{IsNumeralModel, numerals_by_value, parse_digits}
use Rattle.uimg_unpacking.specs.PartEnds.{has_leading_zero, is_number}
use Rattle.uimg_unpacking.specs.PartFilling.{IsNumberOf}
use Rattle.uimg_unpacking.proofs.Placing.{all_digits, cancel}

-- the digits of a number have no zero before others
no_zero : (n : ℕ) → n < 2 ^ 64 → has_leading_zero (decimal n) ≡ false
no_zero zero small = ap has_leading_zero (decimal_digit 0 (omega arith))
no_zero (suc n) small = other (nat_lt 1 (length (decimal (suc n)))) (get_or (decimal (suc n)) 0 0 == 48) (above _ (first_decimal (suc n) (omega arith) small))
  where
    above : (x : ℕ) → 48 < x → (x == 48) ≡ false
    above x more = grind (arith, more)

    other : (a b : Bool) → b ≡ false → (a && b) ≡ false
    other true b is = is
    other false b is = refl

number_told : (n : ℕ) → n < 2 ^ 64 → is_number (decimal n) ≡ true
number_told n small = ap (λ (b : Bool). not b && list_all is_ascii_digit (decimal n)) (no_zero n small) ∙ all_digits is_ascii_digit refl n

pub none_after : (digits : List ℕ) (number : ℕ) → number ≡ 2 ^ 32 - 1 → is_number digits ≡ false → IsNumberOf (codes "image-" ++ digits) number
none_after digits number last bad = record {
  own = λ its small is. absurd (true≢false (sym (number_told its (omega (arith, small))) ∙ ap is_number (sym (cancel (codes "image-") digits (decimal its) is)) ∙ bad));
  other = inr last;
}

digits_model : IsNumeralModel (λ ds. list_all is_ascii_digit ds ≡ true) (digits_value 10)
digits_model = numerals_by_value _ (search rules)

not_true : (b : Bool) → not b ≡ true → b ≡ false
not_true true is = cc
not_true false is = refl

-- one digit, if the first one is a zero
single : (digits : List ℕ) → is_number digits ≡ true → 0 < length digits → get_or digits 0 0 ≡ 48 → length digits ≡ 1
single digits is more zero_first =
    let h = and_parts (not (has_leading_zero digits)) (list_all is_ascii_digit digits) is in
    elim (cases_eq (length digits) 1) [ inl one ↦ one | inr other ↦ absurd (true≢false (sym (both (lt-ltb 1 (length digits) (omega (arith, more, other))) (same zero_first)) ∙ not_true (has_leading_zero digits) h.0)) ]
  where
    same : get_or digits 0 0 ≡ 48 → (get_or digits 0 0 == 48) ≡ true
    same e = ap (λ (n : ℕ). n == 48) e

    both : {a b : Bool} → a ≡ true → b ≡ true → (a && b) ≡ true
    both p q = rw (p, q) refl

digits_of : (digits : List ℕ) → is_number digits ≡ true → list_all is_ascii_digit digits ≡ true
digits_of digits is = (and_parts (not (has_leading_zero digits)) (list_all is_ascii_digit digits) is).1

ok_is : {E : Type 0} (r : Result ℕ E) (a b : ℕ) → r ≡ Ok a → r ≡ Ok b → a ≡ b
ok_is (Ok x) a b p q = cc
ok_is (Err error) a b p q = cc

never : {E : Type 0} {P : Type 0} (r : Result ℕ E) (error : E) (n : ℕ) → r ≡ Err error → r ≡ Ok n → P
never (Ok x) error n p q = cc
never (Err other) error n p q = cc

-- digits that are read, or not
pub number_read : {E : Type 0} (digits : List ℕ) (r : Result ℕ E) (number : ℕ) → is_number digits ≡ true → r ≡ Ok number → ParsesUnsigned 32 10 digits r → IsNumberOf (codes "image-" ++ digits) number
number_read digits r number is ok parses =
    let read : OkIff r ((0 < length digits) × (digits_value 10 digits < 2 ^ 32)) (digits_value 10 digits) =
    parse_digits {P = λ ds. list_all is_ascii_digit ds ≡ true} {v = digits_value 10} digits_model 32 digits r parses (digits_of digits is) in
    let told : ((0 < length digits) × (digits_value 10 digits < 2 ^ 32)) × (number ≡ digits_value 10 digits) = rw ok at read in
    let value : digits_value 10 digits < 2 ^ 64 = omega (arith, told.0.1) in
    let written : decimal (digits_value 10 digits) ≡ digits = decimal-digits_value {P = λ ds. list_all is_ascii_digit ds ≡ true} {v = digits_value 10} digits_model digits (digits_of digits is) told.0.0 (single digits is told.0.0) value in
    record {
      own = λ its small same. ok_is r number its ok (parse-decimal 32 its digits r small (omega (arith, small)) (cancel (codes "image-") digits (decimal its) same) parses);
      other = inl (ap (λ (l : List ℕ). codes "image-" ++ l) (sym written ∙ ap decimal (sym told.1)));
    }

pub number_unread : {E : Type 0} (digits : List ℕ) (r : Result ℕ E) (error : E) (number : ℕ) → number ≡ 2 ^ 32 - 1 → r ≡ Err error → ParsesUnsigned 32 10 digits r → IsNumberOf (codes "image-" ++ digits) number
number_unread digits r error number last failed parses = record {
  own = λ its small same. never r error its failed (parse-decimal 32 its digits r small (omega (arith, small)) (cancel (codes "image-") digits (decimal its) same) parses);
  other = inr last;
}
