-- A number of a command line as a fact and as a function.
use Rattle.std.proofs.Common.{◌≡◌, ◌≢◌, ◌∙◌, ◌==◌, ◌<◌, eqb-true, ◌&&◌, ℕ, Bool, true, false, refl, sym, ap, List, [], ◌∷◌, length, Option, Some, None, SomeIff, true≢false, nat_lt, lt-ltb, ltb-true}
use Rattle.std.specs.Char.{digit_value}
use Rattle.std.specs.List.{list_all}
use Rattle.std.specs.Str.Parse.{AllDigits, IsNumeral, digits_value}
use Rattle.uimg_cli.specs.Readings.{IsCount, count_of, hexadecimal_of, number_below, number_of}
use Rattle.uimg_requests.specs.Numbers.{IsNumberOf}

digits_pass : (base : ℕ) (ds : List ℕ) → AllDigits base ds → list_all (λ d. nat_lt (digit_value d) base) ds ≡ true
digits_pass base [] h = refl
digits_pass base (d ∷ ds) h = rw (lt-ltb (digit_value d) base h.0) (digits_pass base ds h.1)

both : (a b : Bool) → (a && b) ≡ true → (a ≡ true) × (b ≡ true)
both true b e = (refl, e)
both false b e = absurd (true≢false (sym e))

digits_from : (base : ℕ) (ds : List ℕ) → list_all (λ d. nat_lt (digit_value d) base) ds ≡ true → AllDigits base ds
digits_from base [] e = tt
digits_from base (d ∷ ds) e =
    let parts = both _ _ e in
    (ltb-true _ _ parts.0, digits_from base ds parts.1)

abbrev is_number : ℕ → ℕ → List ℕ → Bool
is_number limit base ds = nat_lt 0 (length ds) && (list_all (λ d. nat_lt (digit_value d) base) ds && nat_lt (digits_value base ds) limit)

-- the number of digits, as the fact is put for a limit
abbrev IsBelow : ℕ → ℕ → List ℕ → Option ℕ → Type 0
IsBelow limit base text result = SomeIff result (IsNumeral base text × (digits_value base text < limit)) (digits_value base text)

below_is : (limit base : ℕ) (text : List ℕ) (r : Option ℕ) → IsBelow limit base text r → r ≡ number_below limit base text
below_is limit base text (Some n) h =
    rw (lt-ltb 0 (length text) h.0.0.0, digits_pass base text h.0.0.1, lt-ltb (digits_value base text) limit h.0.1) (ap (λ x. Some x) h.1)
below_is limit base text None h = go (is_number limit base text) refl
  where
    go : (b : Bool) → is_number limit base text ≡ b → None ≡ number_below limit base text
    go false t = rw t refl
    go true t =
        let outer = both _ _ t in
        let inner = both _ _ outer.1 in
        absurd (h ((ltb-true _ _ outer.0, digits_from base text inner.0), ltb-true _ _ inner.1))

pub number_is : (base : ℕ) (text : List ℕ) (r : Option ℕ) → IsNumberOf base text r → r ≡ number_of base text
number_is base text r h = below_is 4294967296 base text r h

pub count_is : (text : List ℕ) (r : Option ℕ) → IsCount text r → r ≡ count_of text
count_is text r h = below_is 18446744073709551616 10 text r h

is_unmarked : (a b : ℕ) (rest : List ℕ) (digits : List ℕ) → a ∷ b ∷ rest ≡ 48 ∷ 120 ∷ digits → (a == 48 && b == 120) ≡ true
is_unmarked a b rest digits e =
    let first : a ≡ 48 = cc in
    let second : b ≡ 120 = cc in
    rw (first, second) refl

pub hexadecimal_is : (text : List ℕ) (r : Option ℕ) → ((digits : List ℕ) → text ≡ 48 ∷ 120 ∷ digits → IsNumberOf 16 digits r)
    → (((digits : List ℕ) → text ≢ 48 ∷ 120 ∷ digits) → IsNumberOf 16 text r) → r ≡ hexadecimal_of text
hexadecimal_is [] r marked plain = number_is 16 [] r (plain (λ digits e. cc))
hexadecimal_is (a ∷ []) r marked plain = number_is 16 (a ∷ []) r (plain (λ digits e. cc))
hexadecimal_is (a ∷ b ∷ rest) r marked plain = go (a == 48 && b == 120) refl
  where
    go : (t : Bool) → (a == 48 && b == 120) ≡ t → r ≡ hexadecimal_of (a ∷ b ∷ rest)
    go true is =
        let parts = both _ _ is in
        rw is (number_is 16 rest r (marked rest (rw (eqb-true a 48 parts.0, eqb-true b 120 parts.1) refl)))
    go false is =
        rw is (number_is 16 (a ∷ b ∷ rest) r (plain (λ digits e. true≢false (sym (is_unmarked a b rest digits e) ∙ is))))
