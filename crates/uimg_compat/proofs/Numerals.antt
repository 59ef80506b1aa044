-- A number as a fact of its digits and as a function of them.
use Rattle.std.proofs.Common.{◌≡◌, ◌∙◌, ◌<◌, ◌≤◌, ◌*◌, ◌+◌, ℕ, Bool, true, false, refl, sym, ap, List, [], ◌∷◌, length, Option, Some, None, true≢false, nat_lt, lt-ltb, ltb-true, rules, arith}
use Rattle.std.specs.Char.{digit_value}
use Rattle.std.specs.List.{list_all}
use Rattle.std.specs.Str.Parse.{AllDigits, digits_value, digits_value_after}
use Rattle.uimg_compat.specs.CNumbers.{IsIn64Bits, at_most, in_64_bits, is_numeral, without_blanks, behind_blank, is_blank}

digits_from : (base : ℕ) (ds : List ℕ) → list_all (λ d. nat_lt (digit_value d) base) ds ≡ true → AllDigits base ds
digits_from base [] e = tt
digits_from base (d ∷ ds) e = go (nat_lt (digit_value d) base) refl (digits_from base ds)
  where
    go : (b : Bool) → nat_lt (digit_value d) base ≡ b → (list_all (λ d. nat_lt (digit_value d) base) ds ≡ true → AllDigits base ds) → AllDigits base (d ∷ ds)
    go true t more = let rest : list_all (λ d. nat_lt (digit_value d) base) (d ∷ ds) ≡ list_all (λ d. nat_lt (digit_value d) base) ds = rw t refl in (ltb-true _ _ t, more (sym rest ∙ e))
    go false t more = let none : list_all (λ d. nat_lt (digit_value d) base) (d ∷ ds) ≡ false = rw t refl in absurd (true≢false (sym e ∙ none))

all_of : (base : ℕ) (ds : List ℕ) → is_numeral base ds ≡ true → (0 < length ds) × AllDigits base ds
all_of base ds e = go (nat_lt 0 (length ds)) refl
  where
    go : (b : Bool) → nat_lt 0 (length ds) ≡ b → (0 < length ds) × AllDigits base ds
    go true t = let rest : is_numeral base ds ≡ list_all (λ d. nat_lt (digit_value d) base) ds = rw t refl in (ltb-true _ _ t, digits_from base ds (sym rest ∙ e))
    go false t = let none : is_numeral base ds ≡ false = rw t refl in absurd (true≢false (sym e ∙ none))

pub in_64_bits_is : (base : ℕ) (ds : List ℕ) (r : Option ℕ) → is_numeral base ds ≡ true → IsIn64Bits base ds r → r ≡ in_64_bits base ds
in_64_bits_is base ds (Some n) all h = rw (lt-ltb (digits_value base ds) 18446744073709551616 h.0.1) (ap (λ x. Some x) h.1)
in_64_bits_is base ds None all h = go (nat_lt (digits_value base ds) 18446744073709551616) refl
  where
    go : (b : Bool) → nat_lt (digits_value base ds) 18446744073709551616 ≡ b → None ≡ in_64_bits base ds
    go false t = rw t refl
    go true t = absurd (h (all_of base ds all, ltb-true _ _ t))

pub no_blank : (text : List ℕ) → None ≡ behind_blank text → text ≡ without_blanks text
no_blank [] h = refl
no_blank (code ∷ rest) h = go (is_blank code) refl
  where
    go : (b : Bool) → is_blank code ≡ b → code ∷ rest ≡ without_blanks (code ∷ rest)
    go false t = rw t refl
    go true t = let some : behind_blank (code ∷ rest) ≡ Some rest = rw t refl in cc

pub grows : (n : ℕ) (ds : List ℕ) → n ≤ digits_value_after 10 n ds
grows n [] = search (rules, arith)
grows n (d ∷ ds) = let more = grows (n * 10 + digit_value d) ds in omega (arith, more)

pub passed : (bound n : ℕ) (ds : List ℕ) (total : ℕ) → bound < n → digits_value_after 10 n ds ≡ total → None ≡ at_most bound total
passed bound n ds total over is = rw (lt-ltb bound total (omega (arith, over, grows n ds, is))) refl
