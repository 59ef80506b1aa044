-- A reservation block is gone over an entry at a time.
use Rattle.std.proofs.Common.{◌≡◌, ◌≤◌, ◌<◌, ℕ, zero, suc, ◌+◌, ◌-◌, ◌*◌, ◌/◌, List, length, Bool, true, false, nat_lt, Option, Some, None, ◌∙◌, ap, sym, refl, subst, lit<, arith}
use Rattle.std.proofs.{Math.Nat.le-div_iff_mul-le, lemmas.Bool.{ltb-true, ltb-false}}
use Rattle.std.specs.Prelude.{IsTrue}
use Rattle.uimg_texts.specs.Slices.{slice}
use Rattle.uimg_base.specs.Device.{Device, SameDevice}
use Rattle.uimg_map.specs.Reservations.{is_zero_entry, GoesOn, EndsBlock, end_among, block_end}

-- the entries up to a place do not end the block
pub record Passed (file : List ℕ) (place at : ℕ) : Type 0 where
  pub count : ℕ
  pub at_is : at ≡ place + 16 * count
  pub goes_on : GoesOn file place count

-- one more entry
more_by : (file : List ℕ) (place count j : ℕ) → GoesOn file place count → is_zero_entry (slice file (place + 16 * count) 16) ≡ false → (b : Bool) → nat_lt j count ≡ b → j < count + 1 → is_zero_entry (slice file (place + 16 * j) 16) ≡ false
more_by file place count j on e true is h = on j (ltb-true j count is)
more_by file place count j on e false is h =
    let from : count ≤ j = ltb-false j count is in
    let same : j ≡ count = omega (arith, from, h) in
    subst (λ (n : ℕ). is_zero_entry (slice file (place + 16 * n) 16) ≡ false) (sym same) e

pub passed_more : (file : List ℕ) (place at : ℕ) → Passed file place at → is_zero_entry (slice file at 16) ≡ false → Passed file place (at + 16)
passed_more file place at p e =
    let here : is_zero_entry (slice file (place + 16 * p.count) 16) ≡ false = subst (λ (n : ℕ). is_zero_entry (slice file n 16) ≡ false) p.at_is e in
    record {
      count = p.count + 1;
      at_is = omega (arith, p.at_is);
      goes_on = λ j h. more_by file place p.count j p.goes_on here (nat_lt j p.count) refl h;
    }

-- the same of devices, where the entry was read
pub passed_by : (d e : Device) (place at : ℕ) (is : Bool) → SameDevice d e → (IsTrue e.honest → is ≡ is_zero_entry (slice e.bytes at 16)) → is ≡ false → (IsTrue d.honest → Passed d.bytes place at) → IsTrue d.honest → Passed d.bytes place (at + 16)
passed_by d e place at is same last not_last p honest =
    let there : IsTrue e.honest = subst IsTrue (sym same.honest) honest in
    let here : is_zero_entry (slice d.bytes at 16) ≡ false = subst (λ (bytes : List ℕ). is_zero_entry (slice bytes at 16) ≡ false) same.bytes (sym (last there) ∙ not_last) in
    passed_more d.bytes place at (p honest) here

-- an end is the one that the definition computes
ends_among : (count n : ℕ) (file : List ℕ) (place : ℕ) → count < n → GoesOn file place count → is_zero_entry (slice file (place + 16 * count) 16) ≡ true → end_among n file place ≡ Some (place + 16 * count + 16)
unfolding end_among
ends_among count zero file place fits on last = absurd (omega arith)
ends_among zero (suc n) file place fits on last =
    let here : is_zero_entry (slice file place 16) ≡ true = subst (λ (at : ℕ). is_zero_entry (slice file at 16) ≡ true) (omega arith) last in
    let end : place + 16 ≡ place + 16 * 0 + 16 = omega arith in
    rw here (ap Some end)
ends_among (suc count) (suc n) file place fits on last =
    let first : place + 16 * 0 ≡ place = omega arith in
    let here : is_zero_entry (slice file place 16) ≡ false = subst (λ (at : ℕ). is_zero_entry (slice file at 16) ≡ false) first (on 0 (omega arith)) in
    let next : (j : ℕ) → place + 16 * (j + 1) ≡ place + 16 + 16 * j = λ j. omega arith in
    let goes : GoesOn file (place + 16) count = λ j h. subst (λ (at : ℕ). is_zero_entry (slice file at 16) ≡ false) (next j) (on (j + 1) (omega arith)) in
    let still : is_zero_entry (slice file (place + 16 + 16 * count) 16) ≡ true = subst (λ (at : ℕ). is_zero_entry (slice file at 16) ≡ true) (omega arith) last in
    let end : place + 16 + 16 * count + 16 ≡ place + 16 * suc count + 16 = omega arith in
    rw here (ends_among count n file (place + 16) (omega arith) goes still ∙ ap Some end)

ends_not : (n : ℕ) (file : List ℕ) (place : ℕ) → GoesOn file place n → end_among n file place ≡ None
unfolding end_among
ends_not zero file place on = refl
ends_not (suc n) file place on =
    let first : place + 16 * 0 ≡ place = omega arith in
    let here : is_zero_entry (slice file place 16) ≡ false = subst (λ (at : ℕ). is_zero_entry (slice file at 16) ≡ false) first (on 0 (omega arith)) in
    let next : (j : ℕ) → place + 16 * (j + 1) ≡ place + 16 + 16 * j = λ j. omega arith in
    rw here (ends_not n file (place + 16) (λ j h. subst (λ (at : ℕ). is_zero_entry (slice file at 16) ≡ false) (next j) (on (j + 1) (omega arith))))

-- the entries of a file behind a place: none where the place is behind the file
ends_not_within : (place : ℕ) (file : List ℕ) (n : ℕ) → 16 * n ≤ length file - place → EndsBlock file place None → end_among n file place ≡ None
ends_not_within place file zero most on = ends_not zero file place (λ j h. absurd (omega arith))
ends_not_within place file (suc n) most on = ends_not (suc n) file place (on (suc n) (omega arith))

pub end_is : (file : List ℕ) (place : ℕ) (end : Option ℕ) → EndsBlock file place end → end ≡ block_end file place
unfolding block_end
end_is file place (Some end) ends =
    let inside : ends.count + 1 ≤ (length file - place) / 16 = (le-div_iff_mul-le {k = 16} {x = ends.count + 1} {y = length file - place} (lit< tt)).1 (omega (arith, ends.end_is, ends.inside)) in
    ap Some ends.end_is ∙ sym (ends_among ends.count ((length file - place) / 16) file place (omega (arith, inside)) ends.goes_on ends.last)
end_is file place None on = sym (ends_not_within place file ((length file - place) / 16) (omega arith) on)
