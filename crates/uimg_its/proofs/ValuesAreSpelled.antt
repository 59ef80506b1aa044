-- Values that are read are spelled.
use Rattle.std.proofs.Common.{◌≡◌, ℕ, zero, suc, List, [], ◌∷◌, ◌++◌, Bool, true, false, Option, Some, None, length, refl, sym, ap, subst, ◌∙◌, append_assoc}
use Rattle.std.specs.{Prelude.{cond, codes}, Str.bytes_eq}
use Rattle.std.proofs.lemmas.Slice.Eq.{bytes_eq-Decides}
use Rattle.uimg_its.specs.{declared.{tokens.Mark.Mark, lists.Listed.Listed}, Options.◌>>=◌}
use Rattle.uimg_its.specs.{declared.lists.Listed.TheVariants.{Cells, Bytes}, Parts.FileBytes}
use Rattle.uimg_its.specs.{Words.{Word, name, directive, text, mark, stray}, Cells.element}
use Rattle.uimg_its.specs.Steps.{Parses, Step, Steps, with_front, and_on, at_most, all}
use Rattle.uimg_its.specs.declared.tokens.Mark.TheVariants.{Slash, Comma, BraceOpen, BraceClose, Semicolon, Less, Greater, ParenOpen, ParenClose, BracketOpen, BracketClose}
use Rattle.uimg_its.specs.Reader.{take_word, is_mark, element_step, list_items, expect, string as string_at, file, spelled_value, value, is_last_value, value_step, values}
use Rattle.uimg_its.specs.Grammar.{AreElements, IsValue, cells, bytes, string, incbin, AreValues, one, more}
use Rattle.uimg_its.proofs.{Shrinking.{some_is, bind_some, pair_leads}, SpelledIsRead.closing}

-- a step that is read
pub triple_is : {X : Type 0} → (b c : Bool) (xs ys : List X) (ws after : List Word) → ◌≡◌ {A = Step X} (Some (b, xs, ws)) (Some (c, ys, after)) → ys ≡ xs
triple_is {X = X} b c xs ys ws after e = sym (ap (λ (x : Bool × List X × List Word). x.1) (some_is _ _ e))

pub triple_leads : {X : Type 0} → (b c : Bool) (xs ys : List X) (ws after : List Word) → ◌≡◌ {A = Step X} (Some (b, xs, ws)) (Some (c, ys, after)) → ws ≡ after
triple_leads {X = X} b c xs ys ws after e = ap (λ (x : Bool × List X × List Word). x.2) (some_is _ _ e)

pub triple_last : {X : Type 0} → (xs ys : List X) (ws after : List Word) → ◌≡◌ {A = Step X} (Some (false, xs, ws)) (Some (true, ys, after)) → ⊥
triple_last {X = X} xs ys ws after e = let last : false ≡ true = ap (λ (x : Bool × List X × List Word). x.0) (some_is _ _ e) in absurd (cc)

pub triple_more : {X : Type 0} → (xs ys : List X) (ws after : List Word) → ◌≡◌ {A = Step X} (Some (true, xs, ws)) (Some (false, ys, after)) → ⊥
triple_more {X = X} xs ys ws after e = let last : true ≡ false = ap (λ (x : Bool × List X × List Word). x.0) (some_is _ _ e) in absurd (cc)

front_found : {X : Type 0} → (R : List X → List Word → Type 0) → (ys xs : List X) (r : Option (List X × List Word)) (after : List Word)
    → ((zs : List X) → r ≡ Some (zs, after) → R (ys ++ zs) after) → with_front ys r ≡ Some (xs, after) → R xs after
front_found {X = X} R ys xs None after others e = absurd (cc)
front_found {X = X} R ys xs (Some x) after others e =
    let a = ap (λ (y : List X × List Word). y.0) (some_is _ _ e) in
    let b = ap (λ (y : List X × List Word). y.1) (some_is _ _ e) in
    subst (λ (l : List X). R l after) a (others x.0 (ap (λ (w : List Word). (let s : List X × List Word = (x.0, w) in Some s)) b))

-- a step and what follows
on_found : {X : Type 0} → (R : List X → List Word → Type 0) → (r : Step X) (on : Parses (List X)) (xs : List X) (after : List Word)
    → (r ≡ Some (true, xs, after) → R xs after)
    → ((ys zs : List X) (then : List Word) → r ≡ Some (false, ys, then) → on then ≡ Some (zs, after) → R (ys ++ zs) after)
    → and_on r on ≡ Some (xs, after) → R xs after
on_found R None on xs after last others e = absurd (cc)
on_found {X = X} R (Some (true, ys, then)) on xs after last others e =
    let a = ap (λ (y : List X × List Word). y.0) (some_is _ _ e) in
    let b = ap (λ (y : List X × List Word). y.1) (some_is _ _ e) in
    last (ap (λ (y : List X × List Word). (let s : Bool × List X × List Word = (true, y.0, y.1) in Some s)) (some_is _ _ e))
on_found {X = X} R (Some (false, ys, then)) on xs after last others e =
    front_found R ys xs (on then) after (λ zs h. others ys zs then refl h) e

-- Induction over all steps.
pub all_found : {X : Type 0} → (step : Steps X) (R : List Word → List X → List Word → Type 0)
    → ((ws after : List Word) (xs : List X) → step ws ≡ Some (true, xs, after) → R ws xs after)
    → ((ws then after : List Word) (ys zs : List X) → step ws ≡ Some (false, ys, then) → R then zs after → R ws (ys ++ zs) after)
    → (n : ℕ) (ws after : List Word) (xs : List X) → at_most step n ws ≡ Some (xs, after) → R ws xs after
all_found step R last others zero ws after xs e = absurd (cc)
all_found step R last others (suc n) ws after xs e =
    on_found (R ws) (step ws) (at_most step n) xs after (λ h. last ws after xs h)
    (λ ys zs then h on. others ws then after ys zs h (all_found step R last others n then after zs on)) e

-- the first word
pub next_is : (ws after : List Word) (w : Word) → take_word ws ≡ Some (w, after) → ws ≡ w ∷ after
next_is [] after w e = absurd (cc)
next_is (stray ∷ ws) after w e = absurd (cc)
next_is (v ∷ ws) after w e = ap (λ (p : Word × List Word). p.0 ∷ p.1) (some_is _ _ e)

pub mark_is : (m : Mark) (w : Word) → is_mark m w ≡ true → w ≡ mark m
mark_is Slash (mark Slash) e = refl
mark_is BraceOpen (mark BraceOpen) e = refl
mark_is BraceClose (mark BraceClose) e = refl
mark_is Semicolon (mark Semicolon) e = refl
mark_is ParenOpen (mark ParenOpen) e = refl
mark_is ParenClose (mark ParenClose) e = refl
mark_is m w e = absurd (cc)

pub guard : {A : Type 0} → (b : Bool) (x y : A) → cond b (Some x) None ≡ Some y → (b ≡ true) × (x ≡ y)
guard true x y e = (refl, some_is x y e)
guard false x y e = absurd (cc)

pub expect_is : (m : Mark) (ws after : List Word) → expect m ws ≡ Some after → ws ≡ mark m ∷ after
expect_is m ws after e =
    let p = bind_some (take_word ws) (λ w. cond (is_mark m w.0) (Some w.1) None) after e in
    let q = guard (is_mark m p.0.0) p.0.1 after p.2 in
    next_is ws p.0.1 p.0.0 p.1 ∙ ap (λ (w : Word). w ∷ p.0.1) (mark_is m p.0.0 q.0) ∙ ap (λ (l : List Word). mark m ∷ l) q.1

-- a pair that is read
pub pair_is : {X : Type 0} → (x y : X) (ws after : List Word) → ◌≡◌ {A = Option (X × List Word)} (Some (x, ws)) (Some (y, after)) → x ≡ y
pair_is {X = X} x y ws after e = ap (λ (p : X × List Word). p.0) (some_is _ _ e)

abbrev ListIs : Listed → List Word → List ℕ → List Word → Type 0
ListIs l ws v after = (inner : List Word) × AreElements l inner v × (ws ≡ inner ++ mark (closing l) ∷ after)

element_true : (l : Listed) (ws after : List Word) (v : List ℕ) → element_step l ws ≡ Some (true, v, after) → ListIs l ws v after
unfolding element_step
element_true l [] after v e = absurd (cc)
element_true Cells (mark Greater ∷ ws) after v e = ([], triple_is _ _ _ _ _ _ e, ap (λ (w : List Word). mark Greater ∷ w) (triple_leads _ _ _ _ _ _ e))
element_true Bytes (mark BracketClose ∷ ws) after v e = ([], triple_is _ _ _ _ _ _ e, ap (λ (w : List Word). mark BracketClose ∷ w) (triple_leads _ _ _ _ _ _ e))
element_true Cells (name n ∷ ws) after v e = let p = bind_some (element Cells n) _ (true, v, after) e in absurd (triple_last _ _ _ _ p.2)
element_true Bytes (name n ∷ ws) after v e = let p = bind_some (element Bytes n) _ (true, v, after) e in absurd (triple_last _ _ _ _ p.2)
element_true l (w ∷ ws) after v e = absurd (cc)

-- an element of a list, at a step that isn't the last
abbrev ElementIs : Listed → List Word → List ℕ → List Word → Type 0
ElementIs l ws v after = (n : List ℕ) × (element l n ≡ Some v) × (ws ≡ name n ∷ after)

element_false_by : (l : Listed) (n v : List ℕ) (ws after : List Word) → (element l n >>= λ b. (let x : Bool × List ℕ × List Word = (false, b, ws) in Some x)) ≡ Some (false, v, after) → ElementIs l (name n ∷ ws) v after
element_false_by l n v ws after e =
    let p = bind_some (element l n) _ (false, v, after) e in
    (n, p.1 ∙ ap Some (sym (triple_is _ _ _ _ _ _ p.2)), ap (λ (w : List Word). name n ∷ w) (triple_leads _ _ _ _ _ _ p.2))

element_false : (l : Listed) (ws after : List Word) (v : List ℕ) → element_step l ws ≡ Some (false, v, after) → ElementIs l ws v after
unfolding element_step
element_false l [] after v e = absurd (cc)
element_false Cells (mark Greater ∷ ws) after v e = absurd (triple_more _ _ _ _ e)
element_false Bytes (mark BracketClose ∷ ws) after v e = absurd (triple_more _ _ _ _ e)
element_false Cells (name n ∷ ws) after v e = element_false_by Cells n v ws after e
element_false Bytes (name n ∷ ws) after v e = element_false_by Bytes n v ws after e
element_false l (w ∷ ws) after v e = absurd (cc)

list_more : (l : Listed) (ws then after : List Word) (v u : List ℕ) → ElementIs l ws v then → ListIs l then u after → ListIs l ws (v ++ u) after
list_more l ws then after v u h t = (name h.0 ∷ t.0, (v, u, h.1, t.1, refl), h.2 ∙ ap (λ (w : List Word). name h.0 ∷ w) t.2)

list_found : (l : Listed) (ws after : List Word) (v : List ℕ) → list_items l ws ≡ Some (v, after) → ListIs l ws v after
unfolding all
list_found l ws after v e =
    all_found (element_step l) (ListIs l) (element_true l) (λ ws then after v u h t. list_more l ws then after v u (element_false l ws then v h) t) (suc (length ws)) ws after v e

-- a value in front of words
abbrev ValueIs : FileBytes → List Word → List ℕ → List Word → Type 0
ValueIs files ws v after = (front : List Word) × IsValue files front v × (ws ≡ front ++ after)

pub string_is : (ws after : List Word) (s : List ℕ) → string_at ws ≡ Some (s, after) → ws ≡ text s ∷ after
string_is [] after s e = absurd (cc)
string_is (text t ∷ ws) after s e = ap (λ (p : List ℕ × List Word). text p.0 ∷ p.1) (some_is _ _ e)
string_is (w ∷ ws) after s e = absurd (cc)

file_is : (files : FileBytes) (ws after : List Word) (v : List ℕ) → file files ws ≡ Some (v, after) → (n : List ℕ) × (files n ≡ Some v) × (ws ≡ mark ParenOpen ∷ text n ∷ mark ParenClose ∷ after)
unfolding file
file_is files ws after v e =
    let opened = bind_some (expect ParenOpen ws) _ (v, after) e in
    let found = bind_some (string_at opened.0) _ (v, after) opened.2 in
    let closed = bind_some (expect ParenClose found.0.1) _ (v, after) found.2 in
    let there = bind_some (files found.0.0) (λ b. (let x : List ℕ × List Word = (b, closed.0) in Some x)) (v, after) closed.2 in (
      found.0.0,
      there.1 ∙ ap Some (pair_is _ _ _ _ there.2),
      expect_is ParenOpen ws opened.0 opened.1 ∙ ap (λ (l : List Word). mark ParenOpen ∷ l) (string_is opened.0 found.0.1 found.0.0 found.1
          ∙ ap (λ (l : List Word). text found.0.0 ∷ l) (expect_is ParenClose found.0.1 closed.0 closed.1 ∙ ap (λ (l : List Word). mark ParenClose ∷ l) (pair_leads _ _ _ _ there.2))),
    )

pub bytes_same : (xs ys : List ℕ) → bytes_eq xs ys ≡ true → xs ≡ ys
bytes_same xs ys e = (bytes_eq-Decides xs ys).0 e

guarded : {A : Type 0} → (b : Bool) (x : Option A) (y : A) → cond b x None ≡ Some y → (b ≡ true) × (x ≡ Some y)
guarded true x y e = (refl, e)
guarded false x y e = absurd (cc)

directive_found : (files : FileBytes) (d : List ℕ) (ws after : List Word) (v : List ℕ) → cond (bytes_eq d (codes "incbin")) (file files ws) None ≡ Some (v, after) → ValueIs files (directive d ∷ ws) v after
directive_found files d ws after v e =
    let p = guarded (bytes_eq d (codes "incbin")) (file files ws) (v, after) e in
    let f = file_is files ws after v p.1 in
    let is : d ≡ codes "incbin" = bytes_same d (codes "incbin") p.0 in
    (directive (codes "incbin") ∷ mark ParenOpen ∷ text f.0 ∷ mark ParenClose ∷ [], incbin f.0 f.1 refl, ap (λ (n : List ℕ). directive n ∷ ws) is ∙ ap (λ (l : List Word). directive (codes "incbin") ∷ l) f.2)

value_of_found : (files : FileBytes) (w : Word) (ws after : List Word) (v : List ℕ) → spelled_value files w ws ≡ Some (v, after) → ValueIs files (w ∷ ws) v after
unfolding spelled_value
value_of_found files (mark Less) ws after v e =
    let p = list_found Cells ws after v e in
    (mark Less ∷ (p.0 ++ mark Greater ∷ []), cells p.0 p.1 refl, ap (λ (l : List Word). mark Less ∷ l) (p.2 ∙ sym (append_assoc p.0 (mark Greater ∷ []) after)))
value_of_found files (mark BracketOpen) ws after v e =
    let p = list_found Bytes ws after v e in
    (mark BracketOpen ∷ (p.0 ++ mark BracketClose ∷ []), bytes p.0 p.1 refl, ap (λ (l : List Word). mark BracketOpen ∷ l) (p.2 ∙ sym (append_assoc p.0 (mark BracketClose ∷ []) after)))
value_of_found files (text s) ws after v e = (text s ∷ [], string s refl (sym (pair_is _ _ _ _ e)), ap (λ (l : List Word). text s ∷ l) (pair_leads _ _ _ _ e))
value_of_found files (directive d) ws after v e = directive_found files d ws after v e
value_of_found files w ws after v e = absurd (cc)

value_found : (files : FileBytes) (ws after : List Word) (v : List ℕ) → value files ws ≡ Some (v, after) → ValueIs files ws v after
unfolding value
value_found files ws after v e =
    let p = bind_some (take_word ws) (λ w. spelled_value files w.0 w.1) (v, after) e in
    let f = value_of_found files p.0.0 p.0.1 after v p.2 in
    (f.0, f.1, next_is ws p.0.1 p.0.0 p.1 ∙ f.2)

ends_true : (w : Word) → is_last_value w ≡ Some true → w ≡ mark Semicolon
ends_true (mark Semicolon) e = refl
ends_true (mark Comma) e = absurd (cc)
ends_true w e = absurd (cc)

ends_false : (w : Word) → is_last_value w ≡ Some false → w ≡ mark Comma
ends_false (mark Semicolon) e = absurd (cc)
ends_false (mark Comma) e = refl
ends_false w e = absurd (cc)

-- a value, and the word behind it
abbrev StepIs : FileBytes → List Word → Bool → List ℕ → List Word → Type 0
StepIs files ws b v after = (front : List Word) × (w : Word) × IsValue files front v × (is_last_value w ≡ Some b) × (ws ≡ front ++ w ∷ after)

value_step_is : (files : FileBytes) (ws after : List Word) (b : Bool) (v : List ℕ) → value_step files ws ≡ Some (b, v, after) → StepIs files ws b v after
unfolding value_step
value_step_is files ws after b v e =
    let first = bind_some (value files ws) _ (b, v, after) e in
    let second = bind_some (take_word first.0.1) _ (b, v, after) first.2 in
    let last = bind_some (is_last_value second.0.0) (λ last. (let x : Bool × List ℕ × List Word = (last, first.0.0, second.0.1) in Some x)) (b, v, after) second.2 in
    let f = value_found files ws first.0.1 first.0.0 first.1 in (
      f.0,
      second.0.0,
      subst (λ (x : List ℕ). IsValue files f.0 x) (sym (triple_is _ _ _ _ _ _ last.2)) f.1,
      last.1 ∙ ap (λ (x : Bool × List ℕ × List Word). Some x.0) (some_is _ _ last.2),
      f.2 ∙ ap (λ (l : List Word). f.0 ++ l) (next_is first.0.1 second.0.1 second.0.0 second.1 ∙ ap (λ (l : List Word). second.0.0 ∷ l) (triple_leads _ _ _ _ _ _ last.2)),
    )

abbrev ValuesAre : FileBytes → List Word → List ℕ → List Word → Type 0
ValuesAre files ws v after = (front : List Word) × AreValues files front v × (ws ≡ front ++ mark Semicolon ∷ after)

values_last : (files : FileBytes) (ws after : List Word) (v : List ℕ) → value_step files ws ≡ Some (true, v, after) → ValuesAre files ws v after
values_last files ws after v e =
    let p = value_step_is files ws after true v e in
    (p.0, one p.2, p.4 ∙ ap (λ (w : Word). p.0 ++ w ∷ after) (ends_true p.1 p.3))

values_more : (files : FileBytes) (ws then after : List Word) (v u : List ℕ) → value_step files ws ≡ Some (false, v, then) → ValuesAre files then u after → ValuesAre files ws (v ++ u) after
values_more files ws then after v u e t =
    let p = value_step_is files ws then false v e in (
      p.0 ++ mark Comma ∷ t.0,
      more p.2 t.1 refl refl,
      p.4 ∙ ap (λ (w : Word). p.0 ++ w ∷ then) (ends_false p.1 p.3) ∙ ap (λ (l : List Word). p.0 ++ mark Comma ∷ l) t.2 ∙ sym (append_assoc p.0 (mark Comma ∷ t.0) (mark Semicolon ∷ after)),
    )

pub values_found : (files : FileBytes) (ws after : List Word) (v : List ℕ) → values files ws ≡ Some (v, after) → ValuesAre files ws v after
unfolding all
values_found files ws after v e = all_found (value_step files) (ValuesAre files) (values_last files) (values_more files) (suc (length ws)) ws after v e
