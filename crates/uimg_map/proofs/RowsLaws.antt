-- Of what the rows of things are made.
use Rattle.std.proofs.Common.{◌≡◌, ◌≤◌, ℕ, ◌+◌, ◌*◌, List, [], ◌∷◌, ◌++◌, length, min, Bool, true, false, nat_lt, Option, length-append, append_assoc, ◌∙◌, ap, sym, refl, arith}
use Rattle.std.specs.Prelude.{if◌then◌else◌}
use Rattle.uimg_map.specs.declared.{thing.Thing.Thing, row.Row.Row}
use Rattle.uimg_map.specs.declared.row.Row.TheVariants.{Taken, Gap, Rest}
use Rattle.uimg_map.specs.Rows.{thing_end, further, overlapped, gap, rest, rows_of_thing, rows_from, thing_of, things_in}

things_in-append : (rs qs : List Row) → things_in (rs ++ qs) ≡ things_in rs ++ things_in qs
things_in-append [] qs = refl
things_in-append (r ∷ rs) qs = ap (λ (ts : List Thing). thing_of r ++ ts) (things_in-append rs qs) ∙ sym (append_assoc (thing_of r) (things_in rs) (things_in qs))

-- bytes that no thing has are no thing, and one row at most
gap_things : (end place : ℕ) (b : Bool) → things_in (if b then Gap end place ∷ [] else []) ≡ []
gap_things end place true = refl
gap_things end place false = refl

things_in-gap : (end place : ℕ) → things_in (gap end place) ≡ []
unfolding gap
things_in-gap end place = gap_things end place (nat_lt end place)

gap_length : (end place : ℕ) (b : Bool) → length (if b then Gap end place ∷ [] else []) ≤ 1
gap_length end place true = omega arith
gap_length end place false = omega arith

length-gap : (end place : ℕ) → length (gap end place) ≤ 1
unfolding gap
length-gap end place = gap_length end place (nat_lt end place)

rest_things : (end size : ℕ) (b : Bool) → things_in (if b then Rest end size ∷ [] else []) ≡ []
rest_things end size true = refl
rest_things end size false = refl

things_in-rest : (size end : ℕ) → things_in (rest size end) ≡ []
unfolding rest
things_in-rest size end = rest_things end size (nat_lt end size)

rest_length : (end size : ℕ) (b : Bool) → length (if b then Rest end size ∷ [] else []) ≤ 1
rest_length end size true = omega arith
rest_length end size false = omega arith

length-rest : (size end : ℕ) → length (rest size end) ≤ 1
unfolding rest
length-rest size end = rest_length end size (nat_lt end size)

-- the rows of a thing have that thing
things_in-step : (size : ℕ) (last : Option Thing) (t : Thing) → things_in (rows_of_thing size last t) ≡ t ∷ []
things_in-step size last t =
    things_in-append (gap (thing_end last) (min t.place size)) (Taken t (overlapped last t) ∷ [])
    ∙ ap (λ (ts : List Thing). ts ++ t ∷ []) (things_in-gap (thing_end last) (min t.place size))

-- the rows of things have these things, and in their order
pub things_in-rows : (size : ℕ) (last : Option Thing) (ts : List Thing) → things_in (rows_from size last ts) ≡ ts
things_in-rows size last [] = things_in-rest size (thing_end last)
things_in-rows size last (t ∷ ts) =
    things_in-append (rows_of_thing size last t) (rows_from size (further last t) ts)
    ∙ ap (λ (us : List Thing). us ++ things_in (rows_from size (further last t) ts)) (things_in-step size last t)
    ∙ ap (λ (us : List Thing). t ∷ us) (things_in-rows size (further last t) ts)

-- there are at most twice as many rows as things, and one
pub length-rows : (size : ℕ) (last : Option Thing) (ts : List Thing) → length (rows_from size last ts) ≤ 2 * length ts + 1
length-rows size last [] = length-rest size (thing_end last)
length-rows size last (t ∷ ts) =
    let before : List Row = gap (thing_end last) (min t.place size) in
    let own : List Row = Taken t (overlapped last t) ∷ [] in
    let both = length-append (before ++ own) (rows_from size (further last t) ts) in
    let first = length-append before own in
    let less = length-gap (thing_end last) (min t.place size) in
    let more = length-rows size (further last t) ts in
    omega (arith, both, first, less, more)
