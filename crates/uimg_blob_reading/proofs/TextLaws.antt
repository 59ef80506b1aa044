-- A text of several parts.
use Rattle.std.proofs.Common.{◌≡◌, ◌<◌, ◌≤◌, ◌+◌, ◌-◌, ℕ, zero, suc, List, [], ◌∷◌, ◌++◌, length, take, Option, Some, None, Bool, true, false, nat_lt, if◌then◌else◌, refl, ap, sym, ◌∙◌, subst, append-nil, length-append, arith}
use Rattle.std.{specs.Option.{option_map, is_some}, proofs.lemmas.List.{take-append-le, take_all}}
use Rattle.std.proofs.lemmas.Bool.{lt-ltb, le-ltb, ltb-true, ltb-false}
use Rattle.uimg_texts.specs.{Nul.{before_nul, text}, Slices.slice}
use Rattle.uimg_base.{proofs.Slices.slice-add, specs.Sink.{Sink, AppendsAll, AppendsPrefix}}
use Rattle.uimg_base.specs.Writing.{Written}
use Rattle.uimg_base.proofs.SinkLaws.{prefix_first, prefix_then, all_then, prefix_all}
use Rattle.uimg_blob_reading.specs.Texts.{GivesShort}
use Rattle.uimg_blob_reading.proofs.PhaseLaws.{some_none, some_some, true_false, by_bool}

abbrev behind : ℕ → Option (List ℕ) → Option (List ℕ)
behind n o = elim o as (λ _. Option (List ℕ)) [ None ↦ None | Some name ↦ Some (suc n ∷ name) ]

abbrev text_by : List ℕ → Option (List ℕ) → List ℕ
text_by bytes o = elim o as (λ _. List ℕ) [ None ↦ bytes | Some found ↦ found ]

by_nul : {P : Type 0} (o : Option (List ℕ)) → (o ≡ None → P) → ((t : List ℕ) → o ≡ Some t → P) → P
by_nul o without within = grind arith

text_is : (xs : List ℕ) → text xs ≡ text_by xs (before_nul xs)
unfolding text
text_is xs = refl

-- a NUL in the first part ends the text
pub nul_first : (a b t : List ℕ) → before_nul a ≡ Some t → before_nul (a ++ b) ≡ Some t
unfolding before_nul
nul_first [] b t h = absurd (some_none (sym h))
nul_first (zero ∷ a) b t h = h
nul_first (suc n ∷ a) b t h = by_nul (before_nul a)
    (λ without. absurd (some_none (sym h ∙ ap (behind n) without)))
    (λ name is. ap (behind n) (nul_first a b name is) ∙ sym (ap (behind n) is) ∙ h)

-- without one the text goes on in the second part
pub nul_later : (a b : List ℕ) → before_nul a ≡ None → before_nul (a ++ b) ≡ option_map (λ t. a ++ t) (before_nul b)
unfolding before_nul
nul_later [] b h = same (before_nul b)
  where
    same : (o : Option (List ℕ)) → o ≡ option_map (λ t. [] ++ t) o
    same None = refl
    same (Some t) = refl
nul_later (zero ∷ a) b h = absurd (some_none h)
nul_later (suc n ∷ a) b h =
    let without : before_nul a ≡ None = by_nul (before_nul a) (λ is. is) (λ name is. absurd (some_none (sym (ap (behind n) is) ∙ h))) in
    ap (behind n) (nul_later a b without) ∙ onward (before_nul b)
  where
    onward : (o : Option (List ℕ)) → behind n (option_map (λ t. a ++ t) o) ≡ option_map (λ t. suc n ∷ (a ++ t)) o
    onward None = refl
    onward (Some t) = refl

-- a text without a NUL is all
pub text_all : (a : List ℕ) → before_nul a ≡ None → text a ≡ a
text_all a h = text_is a ∙ ap (text_by a) h

pub text_ended : (a b : List ℕ) → is_some (before_nul a) ≡ true → text (a ++ b) ≡ text a
text_ended a b h = grind (arith, by_nul, nul_first, text_is, true_false)

pub text_later : (a b : List ℕ) → before_nul a ≡ None → text (a ++ b) ≡ a ++ text b
text_later a b h = grind (arith, nul_later, text_is)

pub without_nul : (a : List ℕ) → is_some (before_nul a) ≡ false → before_nul a ≡ None
without_nul a h = by_nul (before_nul a) (λ is. is) (λ t is. absurd (true_false (sym (ap is_some is) ∙ h)))

-- the text of the first part is a prefix of the text
pub text_more : (a b : List ℕ) → (more : List ℕ) × (text (a ++ b) ≡ text a ++ more)
text_more a b = by_nul (before_nul a)
    (λ without. (text b, text_later a b without ∙ ap (λ (t : List ℕ). t ++ text b) (sym (text_all a without))))
    (λ t is. ([], text_ended a b (ap is_some is) ∙ sym (append-nil (text a))))

nul_of : (a t : List ℕ) → before_nul a ≡ Some t → (rest : List ℕ) × (a ≡ t ++ zero ∷ rest)
unfolding before_nul
nul_of [] t h = absurd (some_none (sym h))
nul_of (zero ∷ a) t h = (a, ap (λ (x : List ℕ). x ++ zero ∷ a) (some_some [] t h))
nul_of (suc n ∷ a) t h = by_nul (before_nul a)
    (λ without. absurd (some_none (sym h ∙ ap (behind n) without)))
    (λ name is.
    let r = nul_of a name is in
    let all : suc n ∷ name ≡ t = some_some (suc n ∷ name) t (sym (ap (behind n) is) ∙ h) in
    (r.0, ap (λ (x : List ℕ). suc n ∷ x) r.1 ∙ ap (λ (x : List ℕ). x ++ zero ∷ r.0) all))

-- a text is a prefix of its bytes
pub text_of : (a : List ℕ) → (rest : List ℕ) × (a ≡ text a ++ rest)
text_of a = by_nul (before_nul a)
    (λ without. ([], sym (append-nil a) ∙ ap (λ (t : List ℕ). t ++ []) (sym (text_all a without))))
    (λ t is. let r = nul_of a t is in (zero ∷ r.0, r.1 ∙ ap (λ (x : List ℕ). x ++ zero ∷ r.0) (sym (text_is a ∙ ap (text_by a) is))))

-- a text is shorter than its bytes exactly where a NUL ends it
pub text_short : (a : List ℕ) → nat_lt (length (text a)) (length a) ≡ is_some (before_nul a)
text_short a = by_nul (before_nul a)
    (λ without. ap (λ (x : List ℕ). nat_lt (length x) (length a)) (text_all a without) ∙ not_below (length a) ∙ sym (ap is_some without))
    (λ t is. ap (λ (x : List ℕ). nat_lt (length x) (length a)) (text_is a ∙ ap (text_by a) is) ∙ lt-ltb (length t) (length a) (nul_within a t is) ∙ sym (ap is_some is))
  where
    not_below : (n : ℕ) → nat_lt n n ≡ false
    not_below n = le-ltb n n (omega arith)

    nul_within : (a t : List ℕ) → before_nul a ≡ Some t → length t < length a
    nul_within a t is = let r = nul_of a t is in omega (arith, ap length r.1, length-append t (zero ∷ r.0))

-- a slice in three parts
parts : (b : List ℕ) (p done next len : ℕ) → done + next ≤ len → (rest : List ℕ) × (slice b p len ≡ slice b p done ++ (slice b (p + done) next ++ rest))
parts b p done next len le =
    let all : len ≡ done + (next + (len - done - next)) = omega (arith, le) in (
      slice b (p + done + next) (len - done - next),
      ap (slice b p) all ∙ slice-add b p done (next + (len - done - next))
          ∙ ap (λ (x : List ℕ). slice b p done ++ x) (slice-add b (p + done) next (len - done - next)),
    )

-- a window's text was put in part
pub text_stopped : (s m t : Sink) (b : List ℕ) (p done next len : ℕ) → done + next ≤ len → before_nul (slice b p done) ≡ None → AppendsAll s m (slice b p done)
    → AppendsPrefix m t (text (slice b (p + done) next)) → AppendsPrefix s t (text (slice b p len))
text_stopped s m t b p done next len le without put prefix =
    let x = parts b p done next len le in
    let y = text_more (slice b (p + done) next) x.0 in
    let all : text (slice b p len) ≡ slice b p done ++ (text (slice b (p + done) next) ++ y.0) =
    ap text x.1 ∙ text_later (slice b p done) (slice b (p + done) next ++ x.0) without ∙ ap (λ (w : List ℕ). slice b p done ++ w) y.1 in
    subst (AppendsPrefix s t) (sym all) (prefix_then s m t _ _ put (prefix_first m t (text (slice b (p + done) next)) y.0 prefix))

-- a NUL ended the text in a window
pub text_put : (s m t : Sink) (b : List ℕ) (p done next len : ℕ) → done + next ≤ len → before_nul (slice b p done) ≡ None → AppendsAll s m (slice b p done)
    → is_some (before_nul (slice b (p + done) next)) ≡ true → AppendsAll m t (text (slice b (p + done) next)) → AppendsAll s t (text (slice b p len))
text_put s m t b p done next len le without put ended more =
    let x = parts b p done next len le in
    let all : text (slice b p len) ≡ slice b p done ++ text (slice b (p + done) next) =
    ap text x.1 ∙ text_later (slice b p done) (slice b (p + done) next ++ x.0) without
    ∙ ap (λ (w : List ℕ). slice b p done ++ w) (text_ended (slice b (p + done) next) x.0 ended) in
    subst (AppendsAll s t) (sym all) (all_then s m t _ _ put more)

-- no NUL stands in a window more
pub still_without : (b : List ℕ) (p done next : ℕ) → before_nul (slice b p done) ≡ None → before_nul (slice b (p + done) next) ≡ None → before_nul (slice b p (done + next)) ≡ None
still_without b p done next first second = grind (arith, nul_later, slice-add)

pub written_all : (s t : Sink) (xs : List ℕ) → AppendsAll s t xs → Written false s t xs
written_all s t xs all = record { all = all; prefix = prefix_all s t xs all }

pub written_some : (e : Bool) (s t : Sink) (xs : List ℕ) → e ≡ true → AppendsPrefix s t xs → Written e s t xs
written_some e s t xs h prefix = grind (arith, true_false)

pub nul_nothing : (b : List ℕ) (p : ℕ) → before_nul (slice b p 0) ≡ None
unfolding before_nul
nul_nothing b p = refl

-- what a short text is read as
pub short_gives : (a rest more whole : List ℕ) (found : Option ℕ) → whole ≡ a ++ rest → (length a < 32 → rest ≡ [])
    → found ≡ (if nat_lt (length (text a)) 32 then Some (length (text a)) else None) → GivesShort (text whole) found (a ++ more)
short_gives a rest more whole found all short is = by_bool (nat_lt (length (text a)) 32)
    (λ few.
    let below : length (text a) < 32 = ltb-true (length (text a)) 32 few in
    let same : text whole ≡ text a = ap text all ∙ by_nul (before_nul a)
    (λ without.
    let here : length a < 32 = omega (arith, below, ap length (text_all a without)) in
    ap (λ (x : List ℕ). text (a ++ x)) (short here) ∙ ap text (append-nil a))
    (λ t nul. text_ended a rest (ap is_some nul)) in
    let r = text_of a in
    let within : length (text a) ≤ length a = omega (arith, ap length r.1, length-append (text a) r.0) in
    let front : take (length (text a)) (a ++ more) ≡ text a =
    take-append-le (length (text a)) a more within ∙ ap (take (length (text a))) r.1
    ∙ take-append-le (length (text a)) (text a) r.0 (omega arith) ∙ take_all (length (text a)) (text a) (omega arith) in
    let given : GivesShort (text whole) (Some (length (text a))) (a ++ more) = (ap length (sym same), below, front ∙ sym same) in
    subst (λ (o : Option ℕ). GivesShort (text whole) o (a ++ more)) (sym (is ∙ ap (λ (b : Bool). if b then Some (length (text a)) else None) few)) given)
    (λ many.
    let y = text_more a rest in
    let far : 31 < length (text whole) = omega (arith, ltb-false (length (text a)) 32 many, ap length (ap text all ∙ y.1), length-append (text a) y.0) in
    subst (λ (o : Option ℕ). GivesShort (text whole) o (a ++ more)) (sym (is ∙ ap (λ (b : Bool). if b then Some (length (text a)) else None) many)) far)
