-- One number of hundredths alone is nearest, so that the search finds it.
use Rattle.std.proofs.Common.{◌≡◌, ◌≤◌, ◌<◌, ℕ, zero, suc, ◌+◌, ◌*◌, ◌/◌, ◌%◌, Bool, true, false, nat_lt, nat_eq, IsTrue, ◌&&◌, ◌||◌, ◌⊎◌, inl, inr, refl, sym, ap, ◌∙◌, arith, add-one, div-le_self, mul-suc, mul-le-mul_left, mod-lt, mul_comm, le-mul_of_pos_right, add-zero}
use Rattle.std.proofs.{Math.Nat.div-add-mod, lemmas.Bool.{cases_order, Decides.nat_tests}}
use Rattle.uimg_texts.specs.Sizes.{distance, is_nearest, first_from, hundredths}

-- what the test says
abbrev IsNearest : ℕ → ℕ → ℕ → Type 0
IsNearest n q h = (2 * distance (100 * n) (q * h) ≤ q) × (2 * distance (100 * n) (q * h) ≡ q → h % 2 ≡ 0)

nearest_bounds : (d q r : ℕ) → (nat_lt d q || (nat_eq d q && nat_eq r 0)) ≡ true → (d ≤ q) × (d ≡ q → r ≡ 0)
nearest_bounds d q r t = grind (arith, nat_tests)

nearest_test : (d q r : ℕ) → d ≤ q → (d ≡ q → r ≡ 0) → (nat_lt d q || (nat_eq d q && nat_eq r 0)) ≡ true
nearest_test d q r h k = grind (arith, nat_tests)

is_nearest-bounds : (n q h : ℕ) → is_nearest n q h ≡ true → IsNearest n q h
is_nearest-bounds n q h t = nearest_bounds (2 * distance (100 * n) (q * h)) q (h % 2) t

is_nearest-test : (n q h : ℕ) → IsNearest n q h → is_nearest n q h ≡ true
is_nearest-test n q h p = nearest_test (2 * distance (100 * n) (q * h)) q (h % 2) p.0 p.1

-- a product by a later number
times_later : (q h k : ℕ) → suc k < h → q * k + (q + q) ≤ q * h
times_later q h k lt = omega (arith, mul-le-mul_left q lt, mul-suc q (suc k), mul-suc q k)

-- of two nearest numbers none is the next or a later one: a tie has one even side
not_next : (a q x y k : ℕ) → y ≡ x + q → 2 * distance a y ≤ q → (2 * distance a y ≡ q → suc k % 2 ≡ 0) → 2 * distance a x ≤ q → (2 * distance a x ≡ q → k % 2 ≡ 0) → ⊥
not_next a q x y k e p tie r tie₂ =
    let next : suc k % 2 ≡ 0 = tie (omega arith) in
    let even : k % 2 ≡ 0 = tie₂ (omega arith) in
    omega arith

not_later : (a q x y : ℕ) → 0 < q → x + (q + q) ≤ y → 2 * distance a y ≤ q → 2 * distance a x ≤ q → ⊥
not_later a q x y low e p r = omega arith

not_below : (n q h k : ℕ) → 0 < q → IsNearest n q h → IsNearest n q k → k < h → ⊥
not_below n q h k low p r lt =
    elim (cases_order (suc k) h) [
      | inl same ↦ let P = rw (sym same) at p in not_next (100 * n) q (q * k) (q * suc k) k (mul-suc q k) P.0 P.1 r.0 r.1
      | inr (inl later) ↦ not_later (100 * n) q (q * k) (q * h) low (times_later q h k later) p.0 r.0
      | inr (inr earlier) ↦ absurd (omega arith)
    ]

-- one number alone is nearest
nearest_unique : (n q h k : ℕ) → 0 < q → IsNearest n q h → IsNearest n q k → h ≡ k
nearest_unique n q h k low p r =
    elim (cases_order h k) [
      | inl same ↦ same
      | inr (inl lt) ↦ absurd (not_below n q k h low r p lt)
      | inr (inr gt) ↦ absurd (not_below n q h k low p r gt)
    ]

-- a number that passes lies after one that fails
later : (p : ℕ → Bool) (from h : ℕ) → p from ≡ false → p h ≡ true → from ≤ h → suc from ≤ h
later p from h fails passes low =
    elim (cases_order from h) [
      | inl same ↦ absurd (let e : false ≡ true = sym fails ∙ ap p same ∙ passes in cc)
      | inr (inl lt) ↦ lt
      | inr (inr gt) ↦ absurd (omega arith)
    ]

-- the search finds the one number that passes, where it lies in its range
first_from-only : (p : ℕ → Bool) (more from h : ℕ) → p h ≡ true → ((k : ℕ) → p k ≡ true → h ≡ k) → from ≤ h → h ≤ from + more → first_from p more from ≡ h
unfolding first_from
first_from-only p zero from h passes only low high = omega arith
first_from-only p (suc more) from h passes only low high =
    let P : Bool → Type 0 = λ b. p from ≡ b → (elim b [ true ↦ from | false ↦ first_from p more (suc from) ]) ≡ h in
    let cases : (b : Bool) → P b = λ b. elim b as P [
      | true ↦ λ e. sym (only from e)
      | false ↦ λ e. first_from-only p more (suc from) h passes only (later p from h e passes low) (omega arith)
    ] in
    cases (p from) refl

-- a number that is nearest, and so is the hundredths
pub record Rounded (n q h : ℕ) : Type 0 where
  pub value : h ≡ hundredths n q
  pub nearest : IsTrue (is_nearest n q h)

hundredths_is : (n q h : ℕ) → 0 < q → IsNearest n q h → h ≤ 100 * n → Rounded n q h
unfolding hundredths
hundredths_is n q h low p high = record {
  value = sym (first_from-only (is_nearest n q) (100 * n) 0 h (is_nearest-test n q h p)
      (λ k t. nearest_unique n q h k low p (is_nearest-bounds n q k t)) (omega arith) (omega arith));
  nearest = is_nearest-test n q h p;
}

-- the quotient or the next number is nearest, as the rest is under a half, over it, or a half
rounds_down : (a q x whole rest : ℕ) → a ≡ x + rest → 2 * rest < q → (2 * distance a x ≤ q) × (2 * distance a x ≡ q → whole % 2 ≡ 0)
rounds_down a q x whole rest e half = (omega arith, λ tie. absurd (omega arith))

rounds_up : (a q x y whole rest : ℕ) → a ≡ x + rest → y ≡ x + q → rest < q → q < 2 * rest → (2 * distance a y ≤ q) × (2 * distance a y ≡ q → whole % 2 ≡ 0)
rounds_up a q x y whole rest e next below half = (omega arith, λ tie. absurd (omega arith))

pub rounded_down : (n q : ℕ) → 0 < q → 2 * (100 * n % q) < q → Rounded n q (100 * n / q)
rounded_down n q low half =
    hundredths_is n q (100 * n / q) low (rounds_down (100 * n) q (q * (100 * n / q)) (100 * n / q) (100 * n % q) (sym (div-add-mod (100 * n) q)) half) (div-le_self (100 * n) q)

le_times : (q k : ℕ) → 0 < q → k ≤ q * k
le_times q k low = rw (mul_comm q k) (le-mul_of_pos_right k low)

above : (a q x whole rest : ℕ) → a ≡ x + rest → q < 2 * rest → whole ≤ x → suc whole ≤ a
above a q x whole rest e half low = omega arith

pub rounded_up : (n q : ℕ) → 0 < q → q < 2 * (100 * n % q) → Rounded n q (100 * n / q + 1)
rounded_up n q low half =
    let whole = 100 * n / q in
    let rest = 100 * n % q in
    let parts = sym (div-add-mod (100 * n) q) in
    let high : suc whole ≤ 100 * n = above (100 * n) q (q * whole) whole rest parts half (le_times q whole low) in
    rw add-one (hundredths_is n q (suc whole) low (rounds_up (100 * n) q (q * whole) (q * suc whole) (suc whole) rest parts (mul-suc q whole) (mod-lt (100 * n) low) half) high)

by_half : (n : ℕ) → (n % 2 ≡ 0) ⊎ (n % 2 ≡ 1)
by_half n = grind arith

-- of a tie's two sides the even one
rounds_even : (a q x whole rest : ℕ) → a ≡ x + rest → 2 * rest ≡ q → whole % 2 ≡ 0 → (2 * distance a x ≤ q) × (2 * distance a x ≡ q → whole % 2 ≡ 0)
rounds_even a q x whole rest e half even = (omega arith, λ tie. even)

rounds_odd : (a q x y whole rest : ℕ) → a ≡ x + rest → y ≡ x + q → 2 * rest ≡ q → whole % 2 ≡ 1 → (2 * distance a y ≤ q) × (2 * distance a y ≡ q → suc whole % 2 ≡ 0)
rounds_odd a q x y whole rest e next half odd = (omega arith, λ tie. omega arith)

tie_above : (a q x whole rest : ℕ) → 0 < q → a ≡ x + rest → 2 * rest ≡ q → whole ≤ x → suc whole ≤ a
tie_above a q x whole rest low e half below = omega arith

pub rounded_tie : (n q : ℕ) → 0 < q → 2 * (100 * n % q) ≡ q → Rounded n q (100 * n / q + 100 * n / q % 2)
rounded_tie n q low half =
    let whole = 100 * n / q in
    let rest = 100 * n % q in
    let parts = sym (div-add-mod (100 * n) q) in
    let even_or_odd : (whole % 2 ≡ 0) ⊎ (whole % 2 ≡ 1) = by_half whole in
    elim even_or_odd [
      | inl even ↦ rw (even, add-zero) (hundredths_is n q whole low (rounds_even (100 * n) q (q * whole) whole rest parts half even) (div-le_self (100 * n) q))
      | inr odd ↦
          let high : suc whole ≤ 100 * n = tie_above (100 * n) q (q * whole) whole rest low parts half (le_times q whole low) in
          rw (odd, add-one) (hundredths_is n q (suc whole) low (rounds_odd (100 * n) q (q * whole) (q * suc whole) whole rest parts (mul-suc q whole) half odd) high)
    ]
