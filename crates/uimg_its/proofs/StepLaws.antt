-- Reading several things is a step, and what follows it.
use Rattle.std.proofs.Common.{◌≡◌, ℕ, zero, suc, ◌<◌, List, [], ◌++◌, Bool, true, false, Option, Some, None, length, refl, sym, ap, ◌∙◌, arith, append_assoc}
use Rattle.std.{proofs.lemmas.List.append-nil, specs.Bool.OnFalse}
use Rattle.uimg_its.specs.{declared.fault.FaultKind.FaultKind, Words.Word}
use Rattle.uimg_its.specs.Answers.{Refuses, is_outside_text}
use Rattle.uimg_its.specs.Steps.{Parses, Step, Steps, with_front, and_on, step_front, at_most, all}

-- Each step but the last takes a word.
abbrev pub Shrinks : {X : Type 0} → Steps X → Type 0
Shrinks {X = X} step = (ws after : List Word) (xs : List X) → step ws ≡ Some (false, xs, after) → length after < length ws

-- what follows may be exchanged for what is the same there
on_same : {X : Type 0} (r : Step X) (f g : Parses (List X)) → ((xs : List X) (after : List Word) → r ≡ Some (false, xs, after) → f after ≡ g after) → and_on r f ≡ and_on r g
on_same None f g h = refl
on_same (Some (true, xs, ws)) f g h = refl
on_same (Some (false, xs, ws)) f g h = ap (with_front xs) (h xs ws refl)

enough : {X : Type 0} (step : Steps X) → Shrinks step → (m n : ℕ) (ws : List Word) → length ws < m → length ws < n → at_most step m ws ≡ at_most step n ws
enough step shrinks zero n ws lm ln = absurd (omega (arith, lm))
enough step shrinks (suc m) zero ws lm ln = absurd (omega (arith, ln))
enough step shrinks (suc m) (suc n) ws lm ln =
    on_same (step ws) (at_most step m) (at_most step n) (λ xs after e. let less = shrinks ws after xs e in enough step shrinks m n after (omega (arith, less, lm)) (omega (arith, less, ln)))

-- all steps are a step, and all that follow it
pub all_step : {X : Type 0} (step : Steps X) → Shrinks step → (ws : List Word) → all step ws ≡ and_on (step ws) (all step)
unfolding all
all_step step shrinks ws =
    on_same (step ws) (at_most step (length ws)) (all step) (λ xs after e. let less = shrinks ws after xs e in enough step shrinks (length ws) (suc (length after)) after (omega (arith, less)) (omega arith))

regroup : {X : Type 0} (front xs : List X) (r : Option (List X × List Word)) → with_front front (with_front xs r) ≡ with_front (front ++ xs) r
regroup front xs None = refl
regroup front xs (Some x) = ap (λ l. Some (l, x.1)) (sym (append_assoc front xs x.0))

front_on : {X : Type 0} (front : List X) (r : Step X) (on : Parses (List X)) → with_front front (and_on r on) ≡ and_on (step_front front r) on
front_on front None on = refl
front_on front (Some (true, xs, ws)) on = refl
front_on front (Some (false, xs, ws)) on = regroup front xs (on ws)

-- One turn of a loop: what was read before, and all steps from here.
turn : {X : Type 0} (step : Steps X) → Shrinks step → (front : List X) (ws : List Word) → with_front front (all step ws) ≡ and_on (step_front front (step ws)) (all step)
turn step shrinks front ws = ap (with_front front) (all_step step shrinks ws) ∙ front_on front (step ws) (all step)

-- the loop goes on
pub goes_on : {X : Type 0} (step : Steps X) → Shrinks step → (front new : List X) (ws after : List Word) (total : Option (List X × List Word))
    → step_front front (step ws) ≡ Some (false, new, after) → with_front front (all step ws) ≡ total → with_front new (all step after) ≡ total
goes_on step shrinks front new ws after total e h = sym (sym h ∙ turn step shrinks front ws ∙ ap (λ r. and_on r (all step)) e)

-- the last step
pub is_last : {X : Type 0} (step : Steps X) → Shrinks step → (front new : List X) (ws after : List Word) (total : Option (List X × List Word))
    → step_front front (step ws) ≡ Some (true, new, after) → with_front front (all step ws) ≡ total → total ≡ Some (new, after)
is_last step shrinks front new ws after total e h = sym h ∙ turn step shrinks front ws ∙ ap (λ r. and_on r (all step)) e

on_false : {P Q : Type 0} (b : Bool) → (P → Q) → OnFalse b P → OnFalse b Q
on_false true f h = tt
on_false false f h = f h

any : {P : Type 0} (b : Bool) → P → OnFalse b P
any true p = tt
any false p = p

-- where there is nothing to read, any refusal is right
pub refused : {X : Type 0} (k : FaultKind) (r : Option X) → r ≡ None → Refuses k r
refused k r e = any (is_outside_text k) e

pub refuses_on : {X Y : Type 0} (k : FaultKind) (r : Option X) (total : Option Y) → (r ≡ None → total ≡ None) → Refuses k r → Refuses k total
refuses_on k r total h e = on_false (is_outside_text k) h e

-- a step is refused
pub is_refused : {X : Type 0} (k : FaultKind) (step : Steps X) → Shrinks step → (front : List X) (ws : List Word) (total : Option (List X × List Word))
    → Refuses k (step_front front (step ws)) → with_front front (all step ws) ≡ total → Refuses k total
is_refused k step shrinks front ws total e h = refuses_on k (step_front front (step ws)) total (λ none. sym h ∙ turn step shrinks front ws ∙ ap (λ r. and_on r (all step)) none) e

-- the same of steps that tell only what they read: the loop goes on
pub goes_past : {X : Type 0} (step : Steps X) → Shrinks step → (front xs new : List X) (ws after : List Word) (total : Option (List X × List Word))
    → step ws ≡ Some (false, xs, after) → new ≡ front ++ xs → with_front front (all step ws) ≡ total → with_front new (all step after) ≡ total
goes_past {X = X} step shrinks front xs new ws after total e is h =
    ap (λ (l : List X). with_front l (all step after)) is ∙ goes_on step shrinks front (front ++ xs) ws after total (ap (step_front front) e) h

-- it ends
pub is_end : {X : Type 0} (step : Steps X) → Shrinks step → (front : List X) (ws after : List Word) (total : Option (List X × List Word))
    → step ws ≡ Some (true, [], after) → with_front front (all step ws) ≡ total → total ≡ Some (front, after)
is_end {X = X} step shrinks front ws after total e h =
    is_last step shrinks front (front ++ []) ws after total (ap (step_front front) e) h ∙ ap (λ (l : List X). (let x : List X × List Word = (l, after) in Some x)) (append-nil front)

-- it is refused
pub is_refused_at : {X : Type 0} (k : FaultKind) (step : Steps X) → Shrinks step → (front : List X) (ws : List Word) (total : Option (List X × List Word))
    → Refuses k (step ws) → with_front front (all step ws) ≡ total → Refuses k total
is_refused_at k step shrinks front ws total e h =
    is_refused k step shrinks front ws total (refuses_on k (step ws) (step_front front (step ws)) (λ nothing. ap (step_front front) nothing) e) h
