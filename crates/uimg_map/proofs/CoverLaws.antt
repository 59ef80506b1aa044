-- Each byte of the file is of a row, and what no row of a thing has is of no thing.
use Rattle.std.proofs.Common.{◌≡◌, ◌≤◌, ◌<◌, ℕ, ◌+◌, List, [], ◌∷◌, ◌++◌, min, Bool, true, false, nat_lt, nat_le, Option, Some, ◌∙◌, ap, sym, refl, arith}
use Rattle.std.specs.{Prelude.{◌&&◌, ◌||◌, if◌then◌else◌}, List.{AllByRecursion, list_any}}
use Rattle.std.proofs.{Math.Bool.{or-true, true≢false}, lemmas.List.Folds.list_any-append}
use Rattle.std.proofs.lemmas.Bool.{lt-ltb, le-leb, ltb-true, leb-true, lt-leb, le-ltb, ltb-false}
use Rattle.uimg_map.specs.{declared.{thing.Thing.Thing, row.Row.Row}, Order.{IsBefore, InOrder}}
use Rattle.uimg_map.specs.declared.row.Row.TheVariants.{Taken, Gap, Rest}
use Rattle.uimg_map.specs.Rows.{thing_end, further, overlapped, gap, rest, rows_of_thing, rows_from}
use Rattle.uimg_map.specs.Cover.{within, contains, is_in_row, has_free}

-- ---- a byte stands from a place up to an end, or doesn't

inside : (i place end : ℕ) → place ≤ i → i < end → within i place end ≡ true
inside i place end a b = ap (λ (x : Bool). x && nat_lt i end) (le-leb place i a) ∙ lt-ltb i end b

both_true : (a b : Bool) → (a && b) ≡ true → (a ≡ true) × (b ≡ true)
both_true true b e = (refl, e)
both_true false b e = absurd (true≢false (sym e))

bounds : (i place end : ℕ) → within i place end ≡ true → (place ≤ i) × (i < end)
bounds i place end e =
    let both = both_true (nat_le place i) (nat_lt i end) e in
    (leb-true place i both.0, ltb-true i end both.1)

and-false : (a : Bool) → (a && false) ≡ false
and-false true = refl
and-false false = refl

too_early : (i place end : ℕ) → i < place → within i place end ≡ false
too_early i place end h = ap (λ (x : Bool). x && nat_lt i end) (lt-leb place i h)

too_late : (i place end : ℕ) → end ≤ i → within i place end ≡ false
too_late i place end h = ap (λ (x : Bool). nat_le place i && x) (le-ltb i end h) ∙ and-false (nat_le place i)

or-false : (a : Bool) → (a || false) ≡ a
or-false true = refl
or-false false = refl

-- ---- the rows of bytes that no thing has

gap_has : (i end place : ℕ) → end ≤ i → i < place → list_any (is_in_row i) (gap end place) ≡ true
unfolding gap
gap_has i end place a b =
    ap (λ (x : Bool). list_any (is_in_row i) (if x then Gap end place ∷ [] else [])) (lt-ltb end place (omega (arith, a, b)))
    ∙ or-false (within i end place) ∙ inside i end place a b

rest_has : (i end size : ℕ) → end ≤ i → i < size → list_any (is_in_row i) (rest size end) ≡ true
unfolding rest
rest_has i end size a b =
    ap (λ (x : Bool). list_any (is_in_row i) (if x then Rest end size ∷ [] else [])) (lt-ltb end size (omega (arith, a, b)))
    ∙ or-false (within i end size) ∙ inside i end size a b

free_if : (i place end : ℕ) (r : Row) → has_free i r ≡ within i place end → (b : Bool) → list_any (has_free i) (if b then r ∷ [] else []) ≡ true → (place ≤ i) × (i < end)
free_if i place end r is true e = bounds i place end (sym is ∙ sym (or-false (has_free i r)) ∙ e)
free_if i place end r is false e = absurd (true≢false (sym e))

free_gap : (i end place : ℕ) → list_any (has_free i) (gap end place) ≡ true → (end ≤ i) × (i < place)
unfolding gap
free_gap i end place e = free_if i end place (Gap end place) refl (nat_lt end place) e

free_rest : (i end size : ℕ) → list_any (has_free i) (rest size end) ≡ true → (end ≤ i) × (i < size)
unfolding rest
free_rest i end size e = free_if i end size (Rest end size) refl (nat_lt end size) e

-- ---- the thing that ends last

further_by : (last : Option Thing) (t : Thing) (b : Bool) → nat_lt (thing_end last) t.end ≡ b → (thing_end last ≤ thing_end (if b then Some t else last)) × (t.end ≤ thing_end (if b then Some t else last))
further_by last t true e =
    let less : thing_end last < t.end = ltb-true (thing_end last) t.end e in
    (omega (arith, less), omega arith)
further_by last t false e = (omega arith, ltb-false (thing_end last) t.end e)

-- it ends no earlier than either
further_ends : (last : Option Thing) (t : Thing) → (thing_end last ≤ thing_end (further last t)) × (t.end ≤ thing_end (further last t))
further_ends last t = further_by last t (nat_lt (thing_end last) t.end) refl

further_least : (last : Option Thing) (t : Thing) (i : ℕ) → thing_end last ≤ i → t.end ≤ i → (b : Bool) → thing_end (if b then Some t else last) ≤ i
further_least last t i a b true = b
further_least last t i a b false = a

-- ---- each byte of the file is of a row

any-step : (p : Row → Bool) (size : ℕ) (last : Option Thing) (t : Thing) (more : List Row) → list_any p (rows_of_thing size last t ++ more) ≡ ((list_any p (gap (thing_end last) (min t.place size)) || (p (Taken t (overlapped last t)) || false)) || list_any p more)
any-step p size last t more =
    list_any-append p (rows_of_thing size last t) more
    ∙ ap (λ (x : Bool). x || list_any p more) (list_any-append p (gap (thing_end last) (min t.place size)) (Taken t (overlapped last t) ∷ []))

first_of_three : (a b c : Bool) → a ≡ true → ((a || (b || false)) || c) ≡ true
first_of_three a b c e = ap (λ (x : Bool). (x || (b || false)) || c) e

second_of_three : (a b c : Bool) → b ≡ true → ((a || (b || false)) || c) ≡ true
second_of_three a b c e = ap (λ (x : Bool). (a || (x || false)) || c) e ∙ ap (λ (x : Bool). x || c) (or-true a)

third_of_three : (a b c : Bool) → c ≡ true → ((a || (b || false)) || c) ≡ true
third_of_three a b c e = ap (λ (x : Bool). (a || (b || false)) || x) e ∙ or-true (a || (b || false))

-- a byte that a thing or the bytes before it may have, or else the rows behind
by_end : (i : ℕ) (t : Thing) (g m : Bool) → t.place ≤ i → (t.end ≤ i → m ≡ true) → (b : Bool) → nat_lt i t.end ≡ b → ((g || (contains i t || false)) || m) ≡ true
by_end i t g m from next true e = second_of_three g (contains i t) m (inside i t.place t.end from (ltb-true i t.end e))
by_end i t g m from next false e = third_of_three g (contains i t) m (next (ltb-false i t.end e))

by_place : (i : ℕ) (t : Thing) (g m : Bool) → (i < t.place → g ≡ true) → (t.end ≤ i → m ≡ true) → (b : Bool) → nat_lt i t.place ≡ b → ((g || (contains i t || false)) || m) ≡ true
by_place i t g m before next true e = first_of_three g (contains i t) m (before (ltb-true i t.place e))
by_place i t g m before next false e = by_end i t g m (ltb-false i t.place e) next (nat_lt i t.end) refl

pub covered : (size i : ℕ) → i < size → (last : Option Thing) (ts : List Thing) → thing_end last ≤ i → list_any (is_in_row i) (rows_from size last ts) ≡ true
covered size i lt last [] le = rest_has i (thing_end last) size le lt
covered size i lt last (t ∷ ts) le =
    let g : Bool = list_any (is_in_row i) (gap (thing_end last) (min t.place size)) in
    let m : Bool = list_any (is_in_row i) (rows_from size (further last t) ts) in
    let before : i < t.place → g ≡ true = λ h. gap_has i (thing_end last) (min t.place size) le (omega (arith, h, lt)) in
    let next : t.end ≤ i → m ≡ true = λ h. covered size i lt (further last t) ts (further_least last t i le h (nat_lt (thing_end last) t.end)) in
    any-step (is_in_row i) size last t (rows_from size (further last t) ts) ∙ by_place i t g m before next (nat_lt i t.place) refl

-- ---- a byte that no row of a thing has is of no thing

-- no thing has a byte before the first
none_has : (i : ℕ) (t : Thing) → i < t.place → (ts : List Thing) → AllByRecursion (IsBefore t) ts → list_any (contains i) ts ≡ false
none_has i t h [] all = refl
none_has i t h (u ∷ us) all =
    ap (λ (x : Bool). x || list_any (contains i) us) (too_early i u.place u.end (omega (arith, h, all.0.place)))
    ∙ none_has i t h us all.1

-- a byte of a file is behind the things of which one ends last, and of none of these
abbrev IsFree : ℕ → ℕ → Option Thing → List Thing → Type 0
IsFree size i last ts = (thing_end last ≤ i) × (i < size) × (list_any (contains i) ts ≡ false)

free_before : (size i : ℕ) (last : Option Thing) (t : Thing) (ts : List Thing) → AllByRecursion (IsBefore t) ts → (thing_end last ≤ i) × (i < min t.place size) → IsFree size i last (t ∷ ts)
free_before size i last t ts all b =
    let early : i < t.place = omega (arith, b.1) in
    (b.0, omega (arith, b.1), ap (λ (x : Bool). x || list_any (contains i) ts) (too_early i t.place t.end early) ∙ none_has i t early ts all)

free_behind : (size i : ℕ) (last : Option Thing) (t : Thing) (ts : List Thing) → IsFree size i (further last t) ts → IsFree size i last (t ∷ ts)
free_behind size i last t ts f =
    let ends = further_ends last t in
    let late : t.end ≤ i = omega (arith, ends.1, f.0) in
    (omega (arith, ends.0, f.0), f.1, ap (λ (x : Bool). x || list_any (contains i) ts) (too_late i t.place t.end late) ∙ f.2)

free_step : (size i : ℕ) (last : Option Thing) (t : Thing) (ts : List Thing) → AllByRecursion (IsBefore t) ts → (m : Bool) → (m ≡ true → IsFree size i (further last t) ts) → (g : Bool) → list_any (has_free i) (gap (thing_end last) (min t.place size)) ≡ g → ((g || (false || false)) || m) ≡ true → IsFree size i last (t ∷ ts)
free_step size i last t ts all m next true e h = free_before size i last t ts all (free_gap i (thing_end last) (min t.place size) e)
free_step size i last t ts all m next false e h = free_behind size i last t ts (next h)

pub free : (size i : ℕ) (last : Option Thing) (ts : List Thing) → InOrder ts → list_any (has_free i) (rows_from size last ts) ≡ true → IsFree size i last ts
free size i last [] o e =
    let b = free_rest i (thing_end last) size e in
    (b.0, b.1, refl)
free size i last (t ∷ ts) o e =
    let more : List Row = rows_from size (further last t) ts in
    free_step size i last t ts o.0 (list_any (has_free i) more) (free size i (further last t) ts o.1)
    (list_any (has_free i) (gap (thing_end last) (min t.place size))) refl (sym (any-step (has_free i) size last t more) ∙ e)
