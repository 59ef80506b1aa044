-- What a pass costs, by the tokens that are met.
use Rattle.std.proofs.Common.{◌≡◌, ◌<◌, ◌≤◌, ◌+◌, ◌-◌, ◌*◌, ℕ, zero, suc, List, [], ◌∷◌, ◌++◌, Option, Some, None, Result, Ok, Err, Bool, cond, if◌then◌else◌, refl, ap, sym, ◌∙◌, subst, length, arith}
use Rattle.std.{specs.List.{sum_by, count_by}, proofs.lemmas.List.Sums.sum_by-cons}
use Rattle.std.proofs.lemmas.Bool.{le-ltb, ltb-false}
use Rattle.uimg_blob_reading.specs.{declared.fault.BlobFault.BlobFault, Reading.Fault, Kept.kept_of}
use Rattle.uimg_blob_reading.specs.{Grammar.{Siblings, none, node}, ReadTokens.cost}
use Rattle.uimg_blob_reading.specs.{Blob.{met_in, up_to}, Walk.{opened, close}, SoFar.next_number}
use Rattle.uimg_blob_reading.specs.{Counts.{is_begin, is_prop, is_nop, weight, begun_by}, Roles.top}
use Rattle.uimg_texts.specs.Numbers.{up4}
use Rattle.uimg_blob_reading.specs.Tokens.{Property, Token, Blocks, begin_node, end_node, prop, nop, last, stray, offset, next, token_at, by_word, tokens_from}
use Rattle.uimg_blob_reading.specs.Passes.{Phase, inside, after, left_after, PassStep, on, stop, step, then_left, stack, entries_at}
use Rattle.uimg_blob_reading.proofs.{SoFarLaws.{size_join, length_kept}, EntryLaws.length_entries}
use Rattle.uimg_blob_reading.proofs.PhaseLaws.{left_is, count_is, some_none, some_some, by_bool}

pub on_stop : {p : Phase} {r : Result Siblings Fault} → on p ≡ stop r → ⊥
on_stop h = grind (arith, h)

pub on_same : (p q : Phase) → on p ≡ on q → p ≡ q
on_same p q h = cc

stop_err : (x e : Fault) → stop (Err x) ≡ stop (Err e) → x ≡ e
stop_err x e h = cc

pub stop_ok : {t : Siblings} {e : Fault} → stop (Ok t) ≡ stop (Err e) → ⊥
stop_ok h = grind (arith, h)

err_at : (f : BlobFault) (at : ℕ) (e : Fault) → stop (Err (f, at)) ≡ stop (Err e) → e.1 ≡ at
err_at f at e h = sym (ap (λ (x : Fault). x.1) (stop_err (f, at) e h))

-- a fault stands at its token
stop_at : (p : Phase) (t : Token) (e : Fault) → step p t ≡ stop (Err e) → e.1 ≡ offset t
stop_at p t e h = grind (arith, err_at, on_stop, stop_ok)

-- What a token does that goes on: another stands after it, its cost is paid, and it begins a node or none.
pub record Moves (p : Phase) (t : Token) (q : Phase) : Type 0 where
  pub place : ℕ
  pub following : next t ≡ Some place
  pub paid : cost t + 4 * length (stack q) ≤ 4 * length (stack p) + weight t
  pub grows : length (entries_at q) ≤ length (entries_at p) + begun_by t

to_on : (p : Phase) (t : Token) (x q : Phase) → on x ≡ on q → Moves p t x → Moves p t q
to_on p t x q h m = subst (λ (k : Phase). Moves p t k) (on_same x q h) m

pub moves : (p : Phase) (t : Token) (q : Phase) → step p t ≡ on q → Moves p t q
unfolding next_number
moves (inside ls) (begin_node at (Ok name)) q h = to_on _ _ _ q h (record {
  place = at + 4 + up4 (length name + 1);
  following = refl;
  paid = omega arith;
  grows = omega (arith, count_is (opened at name [] none ∷ ls) _ refl, count_is ls _ refl);
})
moves (inside ls) (begin_node at (Err f)) q h = absurd (on_stop (sym h))
moves (after o) (begin_node at name) q h = absurd (on_stop (sym h))
moves (inside []) (end_node at) q h = absurd (on_stop (sym h))
moves (inside (opened a name own below ∷ [])) (end_node at) q h = to_on _ _ _ q h (record {
  place = at + 4;
  following = refl;
  paid = omega arith;
  grows = omega (arith, length_entries (kept_of (node a name own below none)), length_kept top None 0 (node a name own below none), count_is (opened a name own below ∷ []) _ refl);
})
moves (inside (opened a name own below ∷ opened a' name' own' below' ∷ ls)) (end_node at) q h = to_on _ _ _ q h (record {
  place = at + 4;
  following = refl;
  paid = omega arith;
  grows = omega (
    arith,
    count_is (close (opened a name own below) (opened a' name' own' below') ∷ ls) _ refl,
    count_is (opened a name own below ∷ opened a' name' own' below' ∷ ls) _ refl,
    size_join below' (node a name own below none),
  );
})
moves (after o) (end_node at) q h = absurd (on_stop (sym h))
moves (inside []) (prop at x) q h = absurd (on_stop (sym h))
moves (inside (opened a name own none ∷ ls)) (prop at (Ok x)) q h = to_on _ _ _ q h (record {
  place = at + 12 + up4 (length x.value);
  following = refl;
  paid = omega arith;
  grows = omega (arith, count_is (opened a name (own ++ x ∷ []) none ∷ ls) _ refl, count_is (opened a name own none ∷ ls) _ refl);
})
moves (inside (opened a name own none ∷ ls)) (prop at (Err f)) q h = absurd (on_stop (sym h))
moves (inside (opened a name own (node a' b c d e) ∷ ls)) (prop at x) q h = absurd (on_stop (sym h))
moves (after o) (prop at x) q h = absurd (on_stop (sym h))
moves p (nop at) q h = to_on _ _ _ q h (record { place = at + 4; following = refl; paid = omega arith; grows = omega arith })
moves (inside ls) (last at) q h = absurd (on_stop (sym h))
moves (after o) (last at) q h = absurd (on_stop (sym h))
moves p (stray at f) q h = absurd (on_stop (sym h))

pick : {X : Type 0} (P : X → Type 0) (c : Bool) (x y : X) → P x → P y → P (if c then x else y)
pick P c x y left right = grind arith

-- a token stands where it is read
pub offset_at : (b : Blocks) (at : ℕ) → offset (token_at b at) ≡ at
unfolding token_at
offset_at b at = grind (arith, pick)

abbrev Ahead : ℕ → Token → Type 0
Ahead at t = (place : ℕ) → next t ≡ Some place → at + 4 ≤ place

ahead_begin : (at : ℕ) (r : Result (List ℕ) BlobFault) → Ahead at (begin_node at r)
ahead_begin at r = grind (arith, some_none, some_some)

ahead_prop : (at : ℕ) (r : Result Property BlobFault) → Ahead at (prop at r)
ahead_prop at r = grind (arith, some_none, some_some)

ahead_word : (b : Blocks) (at word : ℕ) → Ahead at (by_word b at word)
ahead_word b at word = grind (arith, ahead_begin, ahead_prop, pick, some_none, some_some)

-- the next token stands after a whole word of the block
pub ahead_at : (b : Blocks) (at place : ℕ) → next (token_at b at) ≡ Some place → (at + 4 ≤ place) × (at + 4 ≤ b.structure_end)
unfolding token_at
ahead_at b at place h = grind (arith, ahead_word, by_bool, ltb-false, some_none)

by_step : {P : Type 0} (x : PassStep) → ((q : Phase) → x ≡ on q → P) → ((r : Result Siblings Fault) → x ≡ stop r → P) → P
by_step (on q) goes ends = goes q refl
by_step (stop r) goes ends = ends r refl

-- a fault stands where the tokens begin, or later
pub fault_past : (n : ℕ) (b : Blocks) (p : Phase) (at : ℕ) (e : Fault) → b.structure_end - at < n → left_after p (tokens_from n b (Some at)) ≡ Err e → at ≤ e.1
unfolding tokens_from
fault_past zero b p at e enough h = absurd (omega (arith, enough))
fault_past (suc n) b p at e enough h =
    let t : Token = token_at b at in
    let all : then_left (step p t) (tokens_from n b (next t)) ≡ Err e = sym (left_is p t (tokens_from n b (next t))) ∙ h in
    by_step (step p t)
    (λ q goes.
    let m : Moves p t q = moves p t q goes in
    let far = ahead_at b at m.place m.following in
    let rest : left_after q (tokens_from n b (Some m.place)) ≡ Err e =
    ap (λ (o : Option ℕ). left_after q (tokens_from n b o)) (sym m.following) ∙ ap (λ (x : PassStep). then_left x (tokens_from n b (next t))) (sym goes) ∙ all in
    omega (arith, far.0, fault_past n b q m.place e (omega (arith, far.0, far.1, enough)) rest))
    (λ r ends.
    let is : r ≡ Err e = ap (λ (x : PassStep). then_left x (tokens_from n b (next t))) (sym ends) ∙ all in
    omega (arith, stop_at p t e (ends ∙ ap stop is), offset_at b at))

-- a token before the first fault is met
met_more : (whole : Result Siblings Fault) (t : Token) (ts : List Token) → ((e : Fault) → whole ≡ Err e → offset t ≤ e.1) → met_in whole (t ∷ ts) ≡ t ∷ met_in whole ts
unfolding up_to
met_more whole t ts h = grind (arith, le-ltb)

pub sum_more : (f : Token → ℕ) (whole : Result Siblings Fault) (t : Token) (ts : List Token) → ((e : Fault) → whole ≡ Err e → offset t ≤ e.1)
    → sum_by f (met_in whole (t ∷ ts)) ≡ f t + sum_by f (met_in whole ts)
sum_more f whole t ts h = ap (sum_by f) (met_more whole t ts h) ∙ sum_by-cons f t (met_in whole ts)

-- a token's cost, and what it is counted for
pub cost_weight : (t : Token) → cost t ≤ weight t + 4
cost_weight t = grind arith

counted : (t : Token) → weight t ≡ 264 * cond (is_begin t) 1 0 + 268 * cond (is_prop t) 1 0 + 4 * cond (is_nop t) 1 0
counted t = grind arith

pub weight_counts : (ts : List Token) → sum_by weight ts ≡ 264 * count_by is_begin ts + 268 * count_by is_prop ts + 4 * count_by is_nop ts
weight_counts [] = omega arith
weight_counts (t ∷ ts) = omega (
  arith,
  sum_by-cons weight t ts,
  sum_by-cons (λ (x : Token). cond (is_begin x) 1 0) t ts,
  sum_by-cons (λ (x : Token). cond (is_prop x) 1 0) t ts,
  sum_by-cons (λ (x : Token). cond (is_nop x) 1 0) t ts,
  counted t,
  weight_counts ts,
)
