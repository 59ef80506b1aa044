-- No part ends after the last one, so that one decides whether all are in the data.
use Rattle.std.proofs.Common.{◌≡◌, ◌≤◌, ◌<◌, ◌+◌, ◌-◌, ℕ, zero, suc, List, [], ◌∷◌, length, get_or, Bool, true, false, nat_le, Result, Ok, Err, refl, ◌∙◌, ap, arith}
use Rattle.std.specs.Bool.{⊤}
use Rattle.std.proofs.lemmas.Bool.{lt-leb, le-ltb, lt-ltb, ltb-false}
use Rattle.uimg_base.specs.{Results.◌>>=◌, declared.spans.Span.Span}
use Rattle.uimg_legacy.specs.declared.fault.LegacyFault.{LegacyFault, TheVariants.PartOutside}
use Rattle.uimg_legacy.specs.declared.{fault.Fault.Fault, header.Header.Header}
use Rattle.uimg_legacy.specs.declared.fault.Fault.TheVariants as of
use Rattle.uimg_legacy.specs.declared.fault.LegacyFault.TheVariants.{Truncated}
use Rattle.uimg_legacy.specs.{Image.payload, Faults.Gives, Extraction.listed_part}
use Rattle.uimg_legacy.specs.Parts.{has_parts, start, is_outside}
use Rattle.uimg_legacy.specs.{Placing.{spans_before, place_step, span_of_part, places, places_in, spans_of_parts}, Checking.{if_placed, has_its_parts}}
use Rattle.uimg_legacy.proofs.PartsLaws.{start_more}

-- a part ends before or where a later one does
end_before : (table : List ℕ) (k i j : ℕ) → i + k ≡ j → j < length table → start table i + get_or table i 0 ≤ start table j + get_or table j 0
end_before table zero i j e h =
    let same : i ≡ j = omega arith in
    rw same (omega arith)
end_before table (suc k) i j e h =
    let next = end_before table k (i + 1) j (omega arith) h in
    omega (arith, next, start_more table i (omega arith))

inside_before : (payload table : List ℕ) (i last : ℕ) → i ≤ last → last < length table → is_outside payload table last ≡ false → is_outside payload table i ≡ false
unfolding is_outside
inside_before payload table i last h l near =
    let all = ltb-false _ _ near in
    let before = end_before table (last - i) i last (omega arith) l in
    le-ltb _ _ (omega (arith, all, before))

placed_before : (ps : List Span) (r : Result (List Span) LegacyFault) → if_placed (spans_before ps r) ≡ if_placed r
placed_before ps (Ok qs) = refl
placed_before ps (Err fault) = refl

refused_before : (b : Bool) (p : Span) (r : Result (List Span) LegacyFault) → if_placed r ≡ Err PartOutside → if_placed (place_step b p r) ≡ Err PartOutside
refused_before true p r e = refl
refused_before false p r e = placed_before (p ∷ []) r ∙ e

-- all are inside, or one is not
all_inside : (payload table : List ℕ) (n i last : ℕ) → i + n ≡ length table → last + 1 ≡ length table → is_outside payload table last ≡ false → if_placed (places payload table n i) ≡ Ok tt
unfolding places
all_inside payload table zero i last e l near = refl
all_inside payload table (suc n) i last e l near =
    let here = inside_before payload table i last (omega arith) (omega arith) near in
    rw here (placed_before (span_of_part table i ∷ []) (places payload table n (i + 1)) ∙ all_inside payload table n (i + 1) last (omega arith) l near)

one_outside : (payload table : List ℕ) (n i last : ℕ) → i + (n + 1) ≡ length table → last + 1 ≡ length table → is_outside payload table last ≡ true → if_placed (places payload table (suc n) i) ≡ Err PartOutside
unfolding places
one_outside payload table zero i last e l far =
    let same : i ≡ last = omega arith in
    rw (same, far) refl
one_outside payload table (suc n) i last e l far =
    refused_before (is_outside payload table i) (span_of_part table i) (places payload table (suc n) (i + 1)) (one_outside payload table n (i + 1) last (omega arith) l far)

-- a part that was only looked for
abbrev if_listed : Result (List ℕ) LegacyFault → Result ⊤ LegacyFault
if_listed found = do
  bytes ← found
  Ok tt

by_last : (payload table : List ℕ) (last : ℕ) (b : Bool) → last + 1 ≡ length table → is_outside payload table last ≡ b → if_placed (places payload table (length table) 0) ≡ if_listed (listed_part payload table last)
unfolding listed_part
by_last payload table last true l far =
    let there : nat_le (length table) last ≡ false = lt-leb _ _ (omega arith) in
    let all : length table ≡ suc last = omega arith in
    rw (there, far, all) (one_outside payload table last 0 last (omega arith) l far)
by_last payload table last false l near =
    let there : nat_le (length table) last ≡ false = lt-leb _ _ (omega arith) in
    rw (there, near) (all_inside payload table (length table) 0 last (omega arith) l near)

-- the parts of a table are there if the last one is
placed_by_last : (payload table : List ℕ) (last : ℕ) → last + 1 ≡ length table → if_placed (places payload table (length table) 0) ≡ if_listed (listed_part payload table last)
placed_by_last payload table last l = by_last payload table last (is_outside payload table last) l refl

-- a result without its span
abbrev pub only_told : Result Span Fault → Result ⊤ Fault
only_told (Ok span) = Ok tt
only_told (Err fault) = Err fault

pub told_by_last : (payload table : List ℕ) (last : ℕ) (view : Span → List ℕ) (r : Result Span Fault) → last + 1 ≡ length table → Gives view r (listed_part payload table last) → Gives {X = ⊤} (λ it. it) (only_told r) (if_placed (places payload table (length table) 0))
told_by_last payload table last view (Ok span) l e = placed_by_last payload table last l ∙ ap if_listed e
told_by_last payload table last view (Err (of.Legacy fault)) l e = placed_by_last payload table last l ∙ ap if_listed e
told_by_last payload table last view (Err of.Read) l e = tt
told_by_last payload table last view (Err of.Put) l e = tt

pub placed_none : (payload table : List ℕ) → length table ≡ 0 → if_placed (places payload table (length table) 0) ≡ Ok tt
unfolding places
placed_none payload table l = rw l refl

-- truncated data, data without a table, and data with one
pub placed_truncated : (image : List ℕ) (h : Header) → length image < 64 + h.size → has_its_parts image h ≡ Err Truncated
unfolding spans_of_parts
placed_truncated image h l = rw (lt-ltb _ _ l) refl

pub placed_single : (image : List ℕ) (h : Header) → 64 + h.size ≤ length image → has_parts h.kind ≡ false → has_its_parts image h ≡ Ok tt
unfolding spans_of_parts
placed_single image h l e = rw (le-ltb _ _ l, e) refl

pub placed_listed : (image : List ℕ) (h : Header) → 64 + h.size ≤ length image → has_parts h.kind ≡ true → has_its_parts image h ≡ if_placed (places_in true (payload image h) h.size)
unfolding spans_of_parts
placed_listed image h l e = rw (le-ltb _ _ l, e) refl
