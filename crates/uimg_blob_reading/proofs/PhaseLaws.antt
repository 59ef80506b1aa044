-- What a phase of a pass is, and what a token may do in it.
use Rattle.std.proofs.Common.{◌≡◌, ◌<◌, ◌+◌, ℕ, List, [], ◌∷◌, length, Option, Some, None, Ok, Bool, true, false, refl, ap, sym, ◌∙◌, subst, nat_lt, IfSome, arith}
use Rattle.std.proofs.lemmas.Bool.{lt-ltb}
use Rattle.uimg_blob_reading.specs.{declared.states.State.State, Grammar.{none, node}, Tokens.Token}
use Rattle.uimg_blob_reading.specs.Walk.{Open, opened, as_node, walk, begun, finished}
use Rattle.uimg_blob_reading.specs.Kept.{kept, kept_of, entries}
use Rattle.uimg_blob_reading.specs.SoFar.{next_number, so_far, entries_so_far}
use Rattle.uimg_blob_reading.specs.Passes.{Phase, inside, after, left_after, step, then_left, stop, is_after, is_done, bare, InPhase}
use Rattle.uimg_blob_reading.proofs.{SoFarLaws.length_so_far, EntryLaws.length_entries}

-- A token, and then the tokens after it.
pub left_is : (p : Phase) (t : Token) (ts : List Token) → left_after p (t ∷ ts) ≡ then_left (step p t) ts
unfolding walk begun finished
left_is p t ts = grind arith

pub some_none : {X : Type 0} {x : X} → Some x ≡ None → ⊥
some_none h = grind (arith, h)

pub by_bool : {P : Type 0} (b : Bool) → (b ≡ true → P) → (b ≡ false → P) → P
by_bool b when other = grind arith

pub some_some : {X : Type 0} (x y : X) → Some x ≡ Some y → x ≡ y
some_some x y h = cc

pub true_false : true ≡ false → ⊥
true_false h = grind (arith, h)

pub count_is : (ls : List Open) (es : List (List ℕ)) → es ≡ entries_so_far ls → length es ≡ next_number ls
count_is ls es is = ap length is ∙ length_entries (so_far ls) ∙ length_so_far ls

pub count_after : (o : Open) (es : List (List ℕ)) → es ≡ entries (as_node o) → 0 < length es
unfolding kept
count_after (opened at name own below) es is = omega (arith, ap length is ∙ length_entries (kept_of (as_node (opened at name own below))))

-- a property may stand where the innermost node is the last
pub bare_some : (p : Phase) (s : State) (es : List (List ℕ)) (n : ℕ) → InPhase p s es → s.current ≡ Some n → length es ≡ n + 1 → Some n ≡ bare p
unfolding next_number
bare_some (inside []) s es n h is one = absurd (some_none (sym is ∙ h.current))
bare_some (inside (opened at name own none ∷ ls)) s es n h is one = sym is ∙ h.current
bare_some (inside (opened at name own (node a b c d e) ∷ ls)) s es n h is one =
    let same : n ≡ next_number ls = some_some n (next_number ls) (sym is ∙ h.current) in
    absurd (omega (arith, one, same, count_is _ es h.entries))
bare_some (after o) s es n h is one = absurd (some_none (sym is ∙ h.current))

pub bare_none : (p : Phase) (s : State) (es : List (List ℕ)) (n : ℕ) → InPhase p s es → s.current ≡ Some n → (length es ≡ n + 1 → ⊥) → None ≡ bare p
unfolding next_number
bare_none (inside []) s es n h is more = refl
bare_none (inside (opened at name own none ∷ ls)) s es n h is more =
    let same : n ≡ next_number ls = some_some n (next_number ls) (sym is ∙ h.current) in
    absurd (more (omega (arith, same, count_is _ es h.entries)))
bare_none (inside (opened at name own (node a b c d e) ∷ ls)) s es n h is more = refl
bare_none (after o) s es n h is more = refl

lt_zero : (n : ℕ) → 0 < n → nat_lt 0 n ≡ true
lt_zero n h = lt-ltb 0 n h

-- the root has ended where no node is open and there are entries
pub is_after_by : (p : Phase) (s : State) (es : List (List ℕ)) (n : ℕ) → InPhase p s es → s.current ≡ None → n ≡ length es → nat_lt 0 n ≡ is_after p
unfolding next_number
is_after_by (inside []) s es n h is number = ap (λ (k : ℕ). nat_lt 0 k) (number ∙ count_is [] es h.entries)
is_after_by (inside (o ∷ ls)) s es n h is number = absurd (some_none (sym h.current ∙ is))
is_after_by (after o) s es n h is number = lt_zero n (omega (arith, number, count_after o es h.entries))

-- the innermost node has an entry
pub holds_within : (p : Phase) (s : State) (es : List (List ℕ)) → InPhase p s es → IfSome s.current (λ i. i < length es)
unfolding next_number
holds_within (inside []) s es h = subst (λ (o : Option ℕ). IfSome o (λ i. i < length es)) (sym h.current) tt
holds_within (inside (opened at name own below ∷ ls)) s es h =
    let inside_it : next_number ls < length es = omega (arith, count_is (opened at name own below ∷ ls) es h.entries) in
    subst (λ (o : Option ℕ). IfSome o (λ i. i < length es)) (sym h.current) inside_it
holds_within (after o) s es h = subst (λ (o : Option ℕ). IfSome o (λ i. i < length es)) (sym h.current) tt

-- the last token after the root
pub done_goes : (p : Phase) (s : State) (es : List (List ℕ)) (t : Token) → InPhase p s es → is_done p t ≡ true → (o : Open) × (step p t ≡ stop (Ok (as_node o))) × (es ≡ entries (as_node o))
done_goes p s es t h is = grind (arith, true_false)
