-- Texts that are written one after another.
use Rattle.std.proofs.Common.{◌≡◌, ◌≤◌, ◌+◌, ◌-◌, ℕ, List, [], ◌∷◌, ◌++◌, Bool, true, false, Result, Ok, Err, IsTrue, append_assoc, codes, refl, ap, sym, subst, ◌∙◌, arith}
use Rattle.std.specs.{Prelude.is_err, Result.IsErrAnd}
use Rattle.uimg_texts.specs.Slices.{slice}
use Rattle.uimg_base.specs.{Device.{Device, RisesIf}, Held.Held, Outcome.line, Writing.Written}
use Rattle.uimg_base.specs.{Ranges.{is_read, is_put}, Sink.{Sink, AppendsAll}}
use Rattle.uimg_base.specs.declared.ranges.MoveFault.{MoveFault, TheVariants.{Read, Put}}
use Rattle.uimg_base.proofs.{SinkLaws.{Appends-none, prefix_first, prefix_none}, Slices.slice-add}
use Rattle.uimg_base.proofs.WritingLaws.{written_then}
use Rattle.uimg_fit_reading.specs.Puts.{PutsOwn, PutsFromBetween, PutsBetween}

infixr 5 ◌▶◌
pub ◌▶◌ : {e : Bool} {s m t : Sink} {xs ys : List ℕ} → AppendsAll s m xs → Written e m t ys → Written e s t (xs ++ ys)
p ▶ q = written_then _ _ _ _ _ _ p q

-- a failure in the first part
pub cut : (s t : Sink) (xs ys : List ℕ) → Written true s t xs → Written true s t (xs ++ ys)
cut s t xs ys p = record { all = tt; prefix = prefix_first s t xs ys p.prefix }

-- nothing is written
pub nothing : (s : Sink) → Written false s s []
nothing s = record { all = record { appended = Appends-none s.contents }; prefix = prefix_none s [] }

-- a label, and the line of a text
pub line_then : (e : Bool) (s m t : Sink) (label text : List ℕ) → AppendsAll s m label → Written e m t (line text) → Written e s t (line (label ++ text))
line_then e s m t label text p q = subst (λ (w : List ℕ). Written e s t w) (sym (append_assoc label text (10 ∷ []))) (p ▶ q)

-- the bytes of a value: those done, the next, and the rest
pub three_parts : (file : List ℕ) (at done next all : ℕ) → done + next ≤ all
    → slice file at all ≡ slice file at done ++ (slice file (at + done) next ++ slice file (at + done + next) (all - (done + next)))
three_parts file at done next all few =
    let sum : all ≡ done + (next + (all - (done + next))) = omega arith in
    ap (slice file at) sum ∙ slice-add file at done (next + (all - (done + next)))
    ∙ ap (λ (w : List ℕ). slice file at done ++ w) (slice-add file (at + done) next (all - (done + next)))

-- a failure in the second of three parts
pub stopped : (s m t : Sink) (xs ys zs whole : List ℕ) → whole ≡ xs ++ (ys ++ zs) → AppendsAll s m xs → Written true m t ys → Written true s t whole
stopped s m t xs ys zs whole is p q = subst (λ (w : List ℕ). Written true s t w) (sym is) (p ▶ cut m t ys zs q)

-- a title: what stands before the name, the name, and the rest
pub title_parts : (before number name : List ℕ) → (before ++ (number ++ (codes " (" ++ (name ++ codes ")")))) ++ 10 ∷ [] ≡ (before ++ (number ++ codes " (")) ++ (name ++ 41 ∷ 10 ∷ [])
title_parts before number name = simp append_assoc

pub quoted_parts : (before name : List ℕ) → (before ++ (name ++ 39 ∷ [])) ++ 10 ∷ [] ≡ before ++ (name ++ 39 ∷ 10 ∷ [])
quoted_parts before name = simp append_assoc

-- a text that is written from no source
pub of_own : {X : Type 0} (r : Result X MoveFault) (d : Device) (s t : Sink) (xs : List ℕ) → PutsOwn r s t xs → PutsFromBetween 0 r d d s t xs
of_own (Ok x) d s t xs p = record { uses = record { same = record { bytes = refl; honest = refl }; asked = omega arith; failures = refl }; faults = p.faults; told = λ _. p.told }
of_own (Err Put) d s t xs p = record { uses = record { same = record { bytes = refl; honest = refl }; asked = omega arith; failures = refl }; faults = p.faults; told = λ _. p.told }
of_own (Err Read) d s t xs p = let is : Read ≡ Put = p.put in cc

-- what a call stopped with, where it is passed on
pub from_stops : {X Y : Type 0} (m most : ℕ) (r : Result Y MoveFault) (e : MoveFault) (d f : Device) (s t : Sink) (xs ys : List ℕ)
    → IsErrAnd r (λ g. g ≡ e) → m ≤ most → PutsFromBetween {X = X} m (Err e) d f s t xs → PutsFromBetween {X = Y} most r d f s t (xs ++ ys)
from_stops m most (Ok y) e d f s t xs ys is few p = absurd is
from_stops {Y = Y} m most (Err g) e d f s t xs ys is few p =
    subst (λ (x : MoveFault). PutsFromBetween {X = Y} most (Err x) d f s t (xs ++ ys)) (sym is) (record {
      uses = record { same = p.uses.same; asked = omega (arith, p.uses.asked); failures = p.uses.failures };
      faults = p.faults;
      told = λ honest. cut s t xs ys (p.told honest);
    })

-- one call, and then another
pub from_then : {X Y : Type 0} (m n most : ℕ) (x : X) (r : Result Y MoveFault) (d e f : Device) (s t u : Sink) (xs : List ℕ) (ys : List ℕ → List ℕ)
    → m + n ≤ most → PutsFromBetween {X = X} m (Ok x) d e s t xs → PutsFromBetween {X = Y} n r e f t u (ys e.bytes) → PutsFromBetween {X = Y} most r d f s u (xs ++ ys d.bytes)
from_then m n most x r d e f s t u xs ys few p q = record {
  uses = record {
    same = record { bytes = q.uses.same.bytes ∙ p.uses.same.bytes; honest = q.uses.same.honest ∙ p.uses.same.honest };
    asked = omega (arith, p.uses.asked, q.uses.asked);
    failures = subst (λ (k : ℕ). RisesIf (is_read r) k f.failures) p.uses.failures q.uses.failures;
  };
  faults = subst (λ (k : ℕ). RisesIf (is_put r) k u.faults) p.faults q.faults;
  told = λ honest.
      (p.told honest).all ▶ subst (λ (w : List ℕ). Written (is_err r) t u (ys w)) p.uses.same.bytes (q.told (subst (λ (b : Bool). IsTrue b) (sym p.uses.same.honest) honest));
}

pub puts_none : {X : Type 0} (x : X) (d : Device) (h : Held) (s : Sink) → PutsBetween 0 (Ok x) d d h h s s []
puts_none x d h s = record { uses = record { same = record { bytes = refl; honest = refl }; asked = omega arith; failures = refl }; room = refl; faults = refl; told = λ _. nothing s }

-- nothing of the room
pub from_puts : {X : Type 0} {m : ℕ} {r : Result X MoveFault} {d e : Device} {h i : Held} {s t : Sink} {xs : List ℕ} → PutsBetween m r d e h i s t xs → PutsFromBetween m r d e s t xs
from_puts p = record { uses = p.uses; faults = p.faults; told = p.told }

pub puts_from : {X : Type 0} {m : ℕ} {r : Result X MoveFault} {d e : Device} {h i : Held} {s t : Sink} {xs : List ℕ} → i ≡ h → PutsFromBetween m r d e s t xs → PutsBetween m r d e h i s t xs
puts_from same p = record { uses = p.uses; room = same; faults = p.faults; told = p.told }

-- a label, a text, and the end of the line
pub label_stops : {X Y : Type 0} (most : ℕ) (r : Result Y MoveFault) (e : MoveFault) (d : Device) (s t : Sink) (label text : List ℕ)
    → IsErrAnd r (λ g. g ≡ e) → PutsOwn {X = X} (Err e) s t label → PutsFromBetween {X = Y} most r d d s t (line (label ++ text))
label_stops {Y = Y} most r e d s t label text is p =
    subst (λ (w : List ℕ). PutsFromBetween {X = Y} most r d d s t w) (sym (append_assoc label text (10 ∷ []))) (from_stops 0 most r e d d s t label (text ++ 10 ∷ []) is (omega arith) (of_own (Err e) d s t label p))

pub text_stops : {X Y Z : Type 0} (most : ℕ) (x : X) (r : Result Z MoveFault) (e : MoveFault) (d f : Device) (s t u : Sink) (label text : List ℕ)
    → IsErrAnd r (λ g. g ≡ e) → PutsOwn {X = X} (Ok x) s t label → PutsFromBetween {X = Y} most (Err e) d f t u text → PutsFromBetween {X = Z} most r d f s u (line (label ++ text))
text_stops {X = X} {Z = Z} most x r e d f s t u label text is p q =
    subst (λ (w : List ℕ). PutsFromBetween {X = Z} most r d f s u w) (sym (append_assoc label text (10 ∷ [])))
    (from_then {X = X} 0 most most x r d d f s t u label (λ _. text ++ 10 ∷ []) (omega arith) (of_own (Ok x) d s t label p) (from_stops most most r e d f t u text (10 ∷ []) is (omega arith) q))

pub line_ends : {X Y Z : Type 0} (most : ℕ) (x : X) (y : Y) (r : Result Z MoveFault) (d f : Device) (s t u v : Sink) (label text : List ℕ)
    → PutsOwn {X = X} (Ok x) s t label → PutsFromBetween {X = Y} most (Ok y) d f t u text → PutsOwn {X = Z} r u v (10 ∷ []) → PutsFromBetween {X = Z} most r d f s v (line (label ++ text))
line_ends {X = X} {Y = Y} {Z = Z} most x y r d f s t u v label text p q o =
    subst (λ (w : List ℕ). PutsFromBetween {X = Z} most r d f s v w) (sym (append_assoc label text (10 ∷ [])))
    (from_then {X = X} 0 most most x r d d f s t v label (λ _. text ++ 10 ∷ []) (omega arith) (of_own (Ok x) d s t label p)
    (from_then {X = Y} most 0 most y r d f f t u v text (λ _. 10 ∷ []) (omega arith) q (of_own r f u v (10 ∷ []) o)))
