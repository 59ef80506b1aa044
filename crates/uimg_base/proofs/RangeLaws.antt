-- Bytes of a range that are summed, or summed and written, piece after piece.
use Rattle.std.proofs.Common.{◌≡◌, ◌+◌, ℕ, Result, Ok, Err, OnOk, List, [], ◌++◌, length-append, Bool, IsTrue, refl, ap, sym, subst, ◌∙◌, arith}
use Rattle.std.proofs.KnownBytes.{Appends-nil}
use Rattle.uimg_texts.specs.Slices.{slice}
use Rattle.uimg_base.specs.{Device.{Device, SameDevice}, Sink.{Sink, AppendsAll}}
use Rattle.uimg_base.specs.Ranges.{SumsRange, TakesRange}
use Rattle.uimg_base.proofs.{SinkLaws.all_then, Slices.slice-add}

pub nothing_summed : {T : Type 0} (fed : T → T → List ℕ → Type 0) → ((x : T) → fed x x []) → (d : Device) (at : ℕ) (a : T) → SumsRange fed d at 0 a a
nothing_summed fed nothing d at a = record { piece = []; size = refl; summed = nothing a; right = λ honest. refl }

pub more_summed : {T : Type 0} (fed : T → T → List ℕ → Type 0) → ((x y z : T) (xs ys : List ℕ) → fed x y xs → fed y z ys → fed x z (xs ++ ys)) → (d e : Device) (at n k : ℕ) (a b c : T)
    → SameDevice d e → SumsRange fed d at n a b → SumsRange fed e (at + n) k b c → SumsRange fed d at (n + k) a c
more_summed fed more d e at n k a b c same p q = record {
  piece = p.piece ++ q.piece;
  size = length-append p.piece q.piece ∙ omega (arith, p.size, q.size);
  summed = more a b c p.piece q.piece p.summed q.summed;
  right = λ honest.
      let now = subst (λ (x : Bool). IsTrue x) (sym same.honest) honest in
      let next : q.piece ≡ slice d.bytes (at + n) k = subst (λ (xs : List ℕ). q.piece ≡ slice xs (at + n) k) same.bytes (q.right now) in
      ap (λ (xs : List ℕ). xs ++ q.piece) (p.right honest) ∙ ap (λ (xs : List ℕ). slice d.bytes at n ++ xs) next ∙ sym (slice-add d.bytes at n k);
}

pub nothing_taken : {T : Type 0} (fed : T → T → List ℕ → Type 0) → ((x : T) → fed x x []) → (d : Device) (at : ℕ) (a : T) (s : Sink) → TakesRange fed d at 0 a a s s
unfolding nothing_summed
nothing_taken fed nothing d at a s = record { sums = nothing_summed fed nothing d at a; wrote = record { appended = Appends-nil s.contents } }

pub more_taken : {T : Type 0} (fed : T → T → List ℕ → Type 0) → ((x y z : T) (xs ys : List ℕ) → fed x y xs → fed y z ys → fed x z (xs ++ ys)) → (d e : Device) (at n k : ℕ) (a b c : T) (s m t : Sink)
    → SameDevice d e → TakesRange fed d at n a b s m → TakesRange fed e (at + n) k b c m t → TakesRange fed d at (n + k) a c s t
unfolding more_summed
more_taken fed more d e at n k a b c s m t same p q = record {
  sums = more_summed fed more d e at n k a b c same p.sums q.sums;
  wrote = all_then s m t p.sums.piece q.sums.piece p.wrote q.wrote;
}

-- the range of an honest device was fed
pub summed_right : {T : Type 0} {fed : T → T → List ℕ → Type 0} {d : Device} {at len : ℕ} {a b : T} → SumsRange fed d at len a b → IsTrue d.honest → fed a b (slice d.bytes at len)
summed_right {T} {fed} {d} {at} {len} {a} {b} p honest = subst (fed a b) (p.right honest) p.summed

-- the range of an honest device was written
pub taken_right : {T : Type 0} {fed : T → T → List ℕ → Type 0} {d : Device} {at len : ℕ} {a b : T} {s t : Sink} → TakesRange fed d at len a b s t → IsTrue d.honest → AppendsAll s t (slice d.bytes at len)
taken_right {s = s} {t = t} p honest = subst (AppendsAll s t) (p.sums.right honest) p.wrote

-- what was fed was written, too, unless a write failed
pub taken_if : {T X E : Type 0} {fed : T → T → List ℕ → Type 0} {d : Device} {at len : ℕ} {a b : T} (s t : Sink) → (all : SumsRange fed d at len a b) → (result : Result X E) → OnOk result (AppendsAll s t all.piece) → OnOk result (TakesRange fed d at len a b s t)
taken_if s t all (Ok x) wrote = record { sums = all; wrote = wrote }
taken_if s t all (Err fault) wrote = tt

-- what was taken of a device was taken of one with the same bytes
pub taken_of_same : {T : Type 0} {fed : T → T → List ℕ → Type 0} {d e : Device} {at len : ℕ} {a b : T} {s t : Sink} → SameDevice d e → TakesRange fed e at len a b s t → TakesRange fed d at len a b s t
taken_of_same {at = at} {len = len} same p = record {
  sums = record {
    piece = p.sums.piece;
    size = p.sums.size;
    summed = p.sums.summed;
    right = λ honest. subst (λ (xs : List ℕ). p.sums.piece ≡ slice xs at len) same.bytes (p.sums.right (subst (λ (x : Bool). IsTrue x) (sym same.honest) honest));
  };
  wrote = p.wrote;
}
