-- The algorithms in use, and the places of their sums.
use Rattle.std.proofs.Common.{◌≡◌, ◌≢◌, ℕ, zero, suc, ◌+◌, ◌^◌, ◌≤◌, ◌<◌, List, [], ◌∷◌, length, take, length-take, Some, Bool, true, false, cond, refl, ap, sym, ◌∙◌, arith}
use Rattle.std.specs.{Int.bit_at, List.{filter, count_by, slice_get}, Prelude.bit_or}
use Rattle.std.proofs.lemmas.{Bool.eqb-true, Nat.Bits.{bit_at_or, bit_at-zero}}
use Rattle.std.proofs.lemmas.List.Sums.{sum_by-cons, length-filter, count_by-le-length}
use Rattle.uimg_sums.specs.{Algorithms.{all_algos, number}, declared.algo.Algo.Algo}
use Rattle.uimg_fit_base.specs.declared.algo_sets.AlgoSet.{AlgoSet}
use Rattle.uimg_fit_base.specs.AlgoSets.{has, marked, no_algos, is_empty, chosen}

-- an algorithm that is in use stands at its place
place-step : (b : Bool) (x a : Algo) (found : List Algo) (n : ℕ) → slice_get found n ≡ Some a → slice_get (cond b (x ∷ found) found) (cond b 1 0 + n) ≡ Some a
place-step true x a found n h = let same : suc n ≡ 1 + n = omega arith in ap (λ (k : ℕ). slice_get (x ∷ found) k) (sym same) ∙ h
place-step false x a found n h = let same : n ≡ 0 + n = omega arith in ap (λ (k : ℕ). slice_get found k) (sym same) ∙ h

place-among : (f : Algo → Bool) (xs : List Algo) (i : ℕ) (a : Algo) → slice_get xs i ≡ Some a → f a ≡ true → slice_get (filter f xs) (count_by f (take i xs)) ≡ Some a
place-among f [] i a at is = absurd (cc)
place-among f (x ∷ xs) zero a at is = let same : x ≡ a = cc in rw (ap f same ∙ is) at
place-among f (x ∷ xs) (suc i) a at is =
    ap (λ (n : ℕ). slice_get (filter f (x ∷ xs)) n) (sum_by-cons (λ y. cond (f y) 1 0) x (take i xs))
    ∙ place-step (f x) x a (filter f xs) (count_by f (take i xs)) (place-among f xs i a at is)

at-number : (a : Algo) → slice_get all_algos (number a) ≡ Some a
at-number a = grind arith

pub at-place : (set : AlgoSet) (a : Algo) → has set a ≡ true → slice_get (chosen set) (count_by (has set) (take (number a) all_algos)) ≡ Some a
at-place set a is = place-among (has set) all_algos (number a) a (at-number a) is

pub chosen-few : (set : AlgoSet) → length (chosen set) ≤ 8
chosen-few set = omega (arith, length-filter (has set) all_algos, count_by-le-length (has set) all_algos)

pub first-few : (set : AlgoSet) (i : ℕ) → length (filter (has set) (take i all_algos)) < 8
first-few set i =
    let first = take i all_algos in
    omega (arith, length-filter (has set) first, count_by-le-length (has set) first, length-take i all_algos)

-- what is marked is in use, and what was stays so
own-bit : (a : Algo) → bit_at (2 ^ number a) (number a) ≡ 1
own-bit a = grind arith

pub marked-has : (set : AlgoSet) (a : Algo) → has (marked set a) a ≡ true
unfolding has marked
marked-has set a =
    let bit : bit_at (bit_or set.bits (2 ^ number a)) (number a) ≡ 1 = omega (arith, bit_at_or set.bits (2 ^ number a) (number a), own-bit a) in rw bit refl

pub marked-keeps : (set : AlgoSet) (a b : Algo) → has set b ≡ true → has (marked set a) b ≡ true
unfolding has marked
marked-keeps set a b h =
    let bit : bit_at (bit_or set.bits (2 ^ number a)) (number b) ≡ 1 = omega (arith, bit_at_or set.bits (2 ^ number a) (number b), eqb-true _ 1 h) in rw bit refl

-- no algorithm is in use
pub has-none : (a : Algo) → has no_algos a ≡ false
unfolding has
has-none a = rw (bit_at-zero (number a)) refl

pub empty-is : (s : AlgoSet) → is_empty s ≡ true → s ≡ no_algos
unfolding is_empty
empty-is s h = let zero_bits : s.bits ≡ 0 = eqb-true s.bits 0 h in ap (λ (n : ℕ). let t : AlgoSet = record { bits = n } in t) zero_bits

pub some-are : (s : AlgoSet) → is_empty s ≡ false → s ≢ no_algos
unfolding is_empty
some-are s h is = let clash : true ≡ false = sym (ap is_empty is) ∙ h in absurd (cc)
