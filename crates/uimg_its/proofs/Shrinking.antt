-- Each step but the last takes a word.
use Rattle.std.proofs.Common.{◌≡◌, ℕ, zero, suc, ◌<◌, ◌≤◌, List, [], ◌∷◌, Bool, true, false, Option, Some, None, length, refl, ap, arith}
use Rattle.std.specs.{Prelude.{cond, codes}, Str.bytes_eq}
use Rattle.uimg_its.specs.{declared.tokens.Mark.Mark, Parts.FileBytes, Cells.element}
use Rattle.uimg_its.specs.{Words.{Word, directive, text, mark, stray}, declared.lists.Listed.Listed}
use Rattle.uimg_its.specs.{declared.lists.Listed.TheVariants.{Cells, Bytes}, Options.◌>>=◌}
use Rattle.uimg_its.specs.Steps.{Parses, Step, Steps, with_front, and_on, at_most, all}
use Rattle.uimg_its.specs.declared.tokens.Mark.TheVariants.{Less, ParenOpen, ParenClose, BracketOpen}
use Rattle.uimg_its.specs.Reader.{take_word, element_word, element_step, list_items, expect, is_mark, string, string_in, file, spelled_value, value, value_step, values, is_last_value}
use Rattle.uimg_its.proofs.StepLaws.{Shrinks}

-- both steps of a reading were there
pub bind_some : {A B : Type 0} (r : Option A) (f : A → Option B) (y : B) → (r >>= f) ≡ Some y → (x : A) × (r ≡ Some x) × (f x ≡ Some y)
bind_some None f y e = absurd (cc)
bind_some (Some x) f y e = (x, refl, e)

pub some_is : {A : Type 0} (x y : A) → Some x ≡ Some y → x ≡ y
some_is x y e = cc

pub next_shrinks : (ws after : List Word) (w : Word) → take_word ws ≡ Some (w, after) → length after < length ws
next_shrinks [] after w e = absurd (cc)
next_shrinks (stray ∷ ws) after w e = absurd (cc)
next_shrinks (w' ∷ ws) after w e = let same : ws ≡ after = ap (λ (x : Word × List Word). x.1) (some_is _ _ e) in omega (arith, ap length same)

-- where a step that is read leads
pub leads_to : {X : Type 0} → (b c : Bool) (xs ys : List X) (ws after : List Word) → ◌≡◌ {A = Step X} (Some (b, xs, ws)) (Some (c, ys, after)) → ws ≡ after
leads_to {X = X} b c xs ys ws after e = ap (λ (x : Bool × List X × List Word). x.2) (some_is _ _ e)

pub element_leads_by : (l : Listed) (e : Option (List ℕ)) (b : Bool) (ws after : List Word) (xs : List ℕ)
    → elim e as (λ _. Step ℕ) [ None ↦ Some (true, [], ws) | Some n ↦ element l n >>= λ b. Some (false, b, ws) ] ≡ Some (b, xs, after) → ws ≡ after
element_leads_by l None b ws after xs e = leads_to true b [] xs ws after e
element_leads_by l (Some n) b ws after xs e = let p = bind_some (element l n) (λ b. Some (false, b, ws)) (b, xs, after) e in leads_to false b p.0 xs ws after p.2

element_leads : (l : Listed) (ws after : List Word) (b : Bool) (xs : List ℕ) → element_step l ws ≡ Some (b, xs, after) → length after < length ws
unfolding element_step
element_leads l ws after b xs e =
    let first = bind_some (take_word ws) _ (b, xs, after) e in
    let found = bind_some (element_word l first.0.0) _ (b, xs, after) first.2 in
    let same = element_leads_by l found.0 b first.0.1 after xs found.2 in
    let less = next_shrinks ws first.0.1 first.0.0 first.1 in
    omega (arith, less, ap length same)

pub element_shrinks : (l : Listed) → Shrinks (element_step l)
element_shrinks l ws after xs e = element_leads l ws after false xs e

-- Reading never leaves more words than there were.
abbrev pub Within : {X : Type 0} → Parses X → Type 0
Within {X = X} read = (ws after : List Word) (x : X) → read ws ≡ Some (x, after) → length after ≤ length ws

-- The last step leaves no more words than there were.
abbrev pub LastWithin : {X : Type 0} → Steps X → Type 0
LastWithin {X = X} step = (ws after : List Word) (xs : List X) → step ws ≡ Some (true, xs, after) → length after ≤ length ws

pub front_leads : {X : Type 0} → (front xs : List X) (r : Option (List X × List Word)) (after : List Word) → with_front front r ≡ Some (xs, after) → (ys : List X) × (r ≡ Some (ys, after))
front_leads {X = X} front xs None after e = absurd (cc)
front_leads {X = X} front xs (Some x) after e = (x.0, ap (λ (l : List Word). Some (x.0, l)) (ap (λ (y : List X × List Word). y.1) (some_is _ _ e)))

on_within : {X : Type 0} → (r : Step X) (on : Parses (List X)) (most : ℕ) (xs : List X) (after : List Word)
    → ((ys : List X) (then : List Word) → r ≡ Some (true, ys, then) → length then ≤ most)
    → ((ys zs : List X) (then rest : List Word) → r ≡ Some (false, ys, then) → on then ≡ Some (zs, rest) → length rest ≤ most)
    → and_on r on ≡ Some (xs, after) → length after ≤ most
on_within None on most xs after last more e = absurd (cc)
on_within {X = X} (Some (true, ys, then)) on most xs after last more e =
    let same : then ≡ after = ap (λ (y : List X × List Word). y.1) (some_is _ _ e) in
    let le = last ys then refl in omega (arith, le, ap length same)
on_within {X = X} (Some (false, ys, then)) on most xs after last more e =
    let p = front_leads ys xs (on then) after e in more ys p.0 then after refl p.1

most_within : {X : Type 0} → (step : Steps X) → Shrinks step → LastWithin step → (n : ℕ) → Within (at_most step n)
most_within step shrinks last zero ws after xs e = absurd (cc)
most_within step shrinks last (suc n) ws after xs e =
    on_within (step ws) (at_most step n) (length ws) xs after (λ ys then h. last ws then ys h)
    (λ ys zs then rest h on. let a = shrinks ws then ys h in let b = most_within step shrinks last n then rest zs on in omega (arith, a, b)) e

pub all_within : {X : Type 0} → (step : Steps X) → Shrinks step → LastWithin step → Within (all step)
unfolding all
all_within step shrinks last ws after xs e = most_within step shrinks last (suc (length ws)) ws after xs e

listed_within : (l : Listed) → Within (list_items l)
listed_within l = all_within (element_step l) (element_shrinks l) (λ ws after xs e. let less = element_leads l ws after true xs e in omega (arith, less))

chosen : {A : Type 0} (b : Bool) (x y : A) → cond b (Some x) None ≡ Some y → x ≡ y
chosen true x y e = some_is x y e
chosen false x y e = absurd (cc)

pub expect_shrinks : (m : Mark) (ws after : List Word) → expect m ws ≡ Some after → length after < length ws
expect_shrinks m ws after e =
    let p = bind_some (take_word ws) (λ w. cond (is_mark m w.0) (Some w.1) None) after e in
    let same = chosen (is_mark m p.0.0) p.0.1 after p.2 in
    let less = next_shrinks ws p.0.1 p.0.0 p.1 in
    omega (arith, less, ap length same)

-- where a pair that is read leads
pub pair_leads : {X : Type 0} → (x y : X) (ws after : List Word) → ◌≡◌ {A = Option (X × List Word)} (Some (x, ws)) (Some (y, after)) → ws ≡ after
pair_leads {X = X} x y ws after e = ap (λ (p : X × List Word). p.1) (some_is _ _ e)

string_shrinks : (ws after : List Word) (s : List ℕ) → string ws ≡ Some (s, after) → length after < length ws
string_shrinks ws after s e =
    let p = bind_some (take_word ws) _ (s, after) e in
    let q = bind_some (string_in p.0.0) (λ s. Some (s, p.0.1)) (s, after) p.2 in
    let same = pair_leads q.0 s p.0.1 after q.2 in
    let less = next_shrinks ws p.0.1 p.0.0 p.1 in
    omega (arith, less, ap length same)

file_within : (files : FileBytes) → Within (file files)
unfolding file
file_within files ws after x e =
    let opened = bind_some (expect ParenOpen ws) _ (x, after) e in
    let found = bind_some (string opened.0) _ (x, after) opened.2 in
    let closed = bind_some (expect ParenClose found.0.1) _ (x, after) found.2 in
    let there = bind_some (files found.0.0) (λ b. Some (b, closed.0)) (x, after) closed.2 in
    let same = pair_leads there.0 x closed.0 after there.2 in
    let a = expect_shrinks ParenOpen ws opened.0 opened.1 in
    let b = string_shrinks opened.0 found.0.1 found.0.0 found.1 in
    let c = expect_shrinks ParenClose found.0.1 closed.0 closed.1 in
    omega (arith, a, b, c, ap length same)

directive_within : (files : FileBytes) (b : Bool) (ws after : List Word) (x : List ℕ) → cond b (file files ws) None ≡ Some (x, after) → length after ≤ length ws
directive_within files true ws after x e = file_within files ws after x e
directive_within files false ws after x e = absurd (cc)

value_of_within : (files : FileBytes) (w : Word) → Within (spelled_value files w)
unfolding spelled_value
value_of_within files (mark Less) ws after x e = listed_within Cells ws after x e
value_of_within files (text s) ws after x e = let same = pair_leads _ x ws after e in omega (arith, ap length same)
value_of_within files (mark BracketOpen) ws after x e = listed_within Bytes ws after x e
value_of_within files (directive d) ws after x e = directive_within files (bytes_eq d (codes "incbin")) ws after x e
value_of_within files w ws after x e = absurd (cc)

value_leads : (files : FileBytes) (ws after : List Word) (b : Bool) (xs : List ℕ) → value_step files ws ≡ Some (b, xs, after) → length after < length ws
unfolding value_step value
value_leads files ws after b xs e =
    let v = bind_some (value files ws) _ (b, xs, after) e in
    let w = bind_some (take_word v.0.1) _ (b, xs, after) v.2 in
    let last = bind_some (is_last_value w.0.0) (λ last. Some (last, v.0.0, w.0.1)) (b, xs, after) w.2 in
    let same = leads_to last.0 b v.0.0 xs w.0.1 after last.2 in
    let first = bind_some (take_word ws) (λ w. spelled_value files w.0 w.1) v.0 v.1 in
    let a = next_shrinks ws first.0.1 first.0.0 first.1 in
    let b = value_of_within files first.0.0 first.0.1 v.0.1 v.0.0 first.2 in
    let c = next_shrinks v.0.1 w.0.1 w.0.0 w.1 in
    omega (arith, a, b, c, ap length same)

pub value_shrinks : (files : FileBytes) → Shrinks (value_step files)
value_shrinks files ws after xs e = value_leads files ws after false xs e

pub values_within : (files : FileBytes) → Within (values files)
values_within files = all_within (value_step files) (value_shrinks files) (λ ws after xs e. let less = value_leads files ws after true xs e in omega (arith, less))
