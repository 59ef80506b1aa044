-- The places of parts, one at a time.
use Rattle.std.proofs.Common.{◌≡◌, ◌<◌, ◌≤◌, ◌+◌, ◌-◌, ℕ, zero, suc, List, [], ◌∷◌, ◌++◌, append_assoc, append-nil, add-one, get_or, refl, ap, sym, ◌∙◌, arith, Bool, true, false, Result, Ok, Err}
use Rattle.uimg_base.specs.declared.spans.Span.{Span}
use Rattle.uimg_legacy.specs.declared.fault.LegacyFault.{LegacyFault, TheVariants.PartOutside}
use Rattle.uimg_legacy.specs.Parts.{start, is_outside}
use Rattle.uimg_legacy.specs.Placing.{spans_before, span_of_part, place_step, places}

-- the span of a part whose start and size were read
pub place_is : (table : List ℕ) (i at n : ℕ) → at ≡ start table i → n ≡ get_or table i 0 → record { place = 64 + at; length = n } ≡ span_of_part table i
place_is table i at n a e = ap (λ (k : ℕ). record { place = 64 + k; length = n }) a ∙ ap (λ (k : ℕ). record { place = 64 + start table i; length = k }) e

places_suc : (payload table : List ℕ) (n m i : ℕ) → n ≡ suc m → places payload table n i ≡ place_step (is_outside payload table i) (span_of_part table i) (places payload table m (i + 1))
unfolding places
places_suc payload table zero m i e = absurd (omega arith)
places_suc payload table (suc n) m i e =
    let same : n ≡ m = omega arith in
    rw (same, add-one) refl

pub places_more : (payload table : List ℕ) (n i : ℕ) → i < n → places payload table (n - i) i ≡ place_step (is_outside payload table i) (span_of_part table i) (places payload table (n - (i + 1)) (i + 1))
places_more payload table n i h = places_suc payload table (n - i) (n - (i + 1)) i (omega arith)

places_zero : (payload table : List ℕ) (n i : ℕ) → n ≡ 0 → places payload table n i ≡ Ok []
unfolding places
places_zero payload table zero i e = refl
places_zero payload table (suc n) i e = absurd (omega arith)

pub places_end : (payload table : List ℕ) (n i : ℕ) → n ≤ i → places payload table (n - i) i ≡ Ok []
places_end payload table n i h = places_zero payload table (n - i) i (omega arith)

before_before : (ps qs : List Span) (r : Result (List Span) LegacyFault) → spans_before ps (spans_before qs r) ≡ spans_before (ps ++ qs) r
before_before ps qs (Ok rs) = ap (λ (l : List Span). Ok l) (sym (append_assoc ps qs rs))
before_before ps qs (Err fault) = refl

pub before_none : (r : Result (List Span) LegacyFault) → r ≡ spans_before [] r
before_none (Ok rs) = refl
before_none (Err fault) = refl

-- a part that ends inside the data, one that does not, and no more
pub place_one : (payload table : List ℕ) (n i : ℕ) (ps : List Span) (p : Span) (all : Result (List Span) LegacyFault) → i < n → is_outside payload table i ≡ false → p ≡ span_of_part table i
    → all ≡ spans_before ps (places payload table (n - i) i) → all ≡ spans_before (ps ++ p ∷ []) (places payload table (n - (i + 1)) (i + 1))
place_one payload table n i ps p all h near is e =
    let rest = places payload table (n - (i + 1)) (i + 1) in
    e ∙ ap (spans_before ps) (places_more payload table n i h ∙ ap (λ (b : Bool). place_step b (span_of_part table i) rest) near ∙ ap (λ (q : Span). spans_before (q ∷ []) rest) (sym is))
    ∙ before_before ps (p ∷ []) rest

pub place_outside : (payload table : List ℕ) (n i : ℕ) (ps : List Span) (all : Result (List Span) LegacyFault) → i < n → is_outside payload table i ≡ true
    → all ≡ spans_before ps (places payload table (n - i) i) → all ≡ Err PartOutside
place_outside payload table n i ps all h far e =
    e ∙ ap (spans_before ps) (places_more payload table n i h ∙ ap (λ (b : Bool). place_step b (span_of_part table i) (places payload table (n - (i + 1)) (i + 1))) far)

pub place_all : (payload table : List ℕ) (n i : ℕ) (ps : List Span) (all : Result (List Span) LegacyFault) → n ≤ i
    → all ≡ spans_before ps (places payload table (n - i) i) → all ≡ Ok ps
place_all payload table n i ps all h e = e ∙ ap (spans_before ps) (places_end payload table n i h) ∙ ap (λ (l : List Span). Ok l) (append-nil ps)
