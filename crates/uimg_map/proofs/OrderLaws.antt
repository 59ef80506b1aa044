-- What a sort ensures is the order of things.
use Rattle.std.proofs.Common.{◌≡◌, ℕ, suc, List, [], ◌∷◌, false, get_or, ap, sym, refl, subst, add-one, ◌∙◌, arith}
use Rattle.std.{specs.List.{AllByRecursion, Sorted.IsSorted}, proofs.lemmas.Map.Keys.ge_from_not_lt}
use Rattle.std.specs.{Ordering.{is_lt, ordering_then, nat_cmp}, declared.cmp.Ordering.Ordering}
use Rattle.std.specs.declared.cmp.Ordering.TheVariants.{Less, Equal, Greater}
use Rattle.std.proofs.lemmas.Cmp.{nat_cmp_total, tied_itself}
use Rattle.uimg_map.specs.{declared.thing.Thing.Thing, Order.{IsBefore, InOrder}}

-- by places, then ends, then numbers
abbrev pub thing_cmp : Thing → Thing → Ordering
thing_cmp s t = ordering_then (nat_cmp s.place t.place) (ordering_then (nat_cmp s.end t.end) (nat_cmp s.number t.number))

-- where the first of two comparisons is even the second counts
first_counts : (o p : Ordering) → is_lt (ordering_then o p) ≡ false → is_lt o ≡ false
first_counts Less p e = e
first_counts Equal p e = refl
first_counts Greater p e = refl

second_counts : (o p : Ordering) → o ≡ Equal → is_lt (ordering_then o p) ≡ false → is_lt p ≡ false
second_counts o p same e = sym (ap (λ (x : Ordering). is_lt (ordering_then x p)) same) ∙ e

even : (a b : ℕ) → b ≡ a → nat_cmp a b ≡ Equal
even a b e = ap (λ (n : ℕ). nat_cmp a n) e ∙ tied_itself nat_cmp_total a

-- what does not come before a thing comes behind it
behind : (s t : Thing) → is_lt (thing_cmp t s) ≡ false → IsBefore s t
behind s t e =
    let ends : Ordering = ordering_then (nat_cmp t.end s.end) (nat_cmp t.number s.number) in
    let by_ends : s.place ≡ t.place → is_lt ends ≡ false = λ same. second_counts (nat_cmp t.place s.place) ends (even t.place s.place same) e in
    record {
      place = ge_from_not_lt t.place s.place (first_counts (nat_cmp t.place s.place) ends e);
      end = λ same. ge_from_not_lt t.end s.end (first_counts (nat_cmp t.end s.end) (nat_cmp t.number s.number) (by_ends same));
      number = λ same also. ge_from_not_lt t.number s.number (second_counts (nat_cmp t.end s.end) (nat_cmp t.number s.number) (even t.end s.end also) (by_ends same));
    }

chained : (s t u : Thing) → IsBefore s t → IsBefore t u → IsBefore s u
chained s t u a b = record {
  place = omega (arith, a.place, b.place);
  end = λ same.
      let first : s.place ≡ t.place = omega (arith, a.place, b.place, same) in
      let second : t.place ≡ u.place = omega (arith, a.place, b.place, same) in
      omega (arith, a.end first, b.end second);
  number = λ same also.
      let first : s.place ≡ t.place = omega (arith, a.place, b.place, same) in
      let second : t.place ≡ u.place = omega (arith, a.place, b.place, same) in
      let third : s.end ≡ t.end = omega (arith, a.end first, b.end second, also) in
      let fourth : t.end ≡ u.end = omega (arith, a.end first, b.end second, also) in
      omega (arith, a.number first third, b.number second fourth);
}

all_chained : (s t : Thing) → IsBefore s t → (ts : List Thing) → AllByRecursion (IsBefore t) ts → AllByRecursion (IsBefore s) ts
all_chained s t b [] h = tt
all_chained s t b (u ∷ us) h = (chained s t u b h.0, all_chained s t b us h.1)

-- without the first of two things the rest is still sorted
sorted_rest : (s t : Thing) (ts : List Thing) → IsSorted thing_cmp (s ∷ t ∷ ts) → IsSorted thing_cmp (t ∷ ts)
sorted_rest s t ts h = λ k d low high.
    subst (λ (n : ℕ). is_lt (thing_cmp (get_or (t ∷ ts) n d) (get_or (t ∷ ts) k d)) ≡ false) (sym (add-one k))
    (subst (λ (n : ℕ). is_lt (thing_cmp (get_or (s ∷ t ∷ ts) n d) (get_or (t ∷ ts) k d)) ≡ false) (add-one (suc k)) (h (suc k) d (omega arith) (omega arith)))

pub in_order : (ts : List Thing) → IsSorted thing_cmp ts → InOrder ts
in_order [] h = tt
in_order (t ∷ []) h = (tt, tt)
in_order (s ∷ t ∷ ts) h =
    let more : InOrder (t ∷ ts) = in_order (t ∷ ts) (sorted_rest s t ts h) in
    let next : IsBefore s t = behind s t (h 0 s (omega arith) (omega arith)) in
    ((next, all_chained s t next ts more.0), more)
