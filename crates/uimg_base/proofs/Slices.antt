-- Slices of a list of bytes, one after another.
use Rattle.std.proofs.Common.{◌≡◌, ◌≤◌, ℕ, ◌+◌, List, length, ◌++◌, take, drop, length-take, length-drop, ◌∙◌, ap, sym, subst, arith}
use Rattle.std.proofs.{Math.Seq.take-add, lemmas.List.{take-take, drop-drop}}
use Rattle.std.specs.Io.KnownBytes.{Appends}
use Rattle.uimg_texts.specs.Slices.{slice}
use Rattle.uimg_base.specs.Sink.{Sink, AppendsFirst, AppendsAll}
use Rattle.uimg_base.proofs.SinkLaws.{all_then}

-- n bytes, and the m bytes after them
pub slice-add : (xs : List ℕ) (at n m : ℕ) → slice xs at (n + m) ≡ slice xs at n ++ slice xs (at + n) m
slice-add xs at n m = take-add n m (drop at xs) ∙ ap (λ w. take n (drop at xs) ++ take m w) (drop-drop n at xs)

pub take-slice : (xs : List ℕ) (at n k : ℕ) → k ≤ n → take k (slice xs at n) ≡ slice xs at k
take-slice xs at n k h = take-take k n (drop at xs) h

pub length-slice : (xs : List ℕ) (at n : ℕ) → at + n ≤ length xs → length (slice xs at n) ≡ n
length-slice xs at n h = simp (length-take, length-drop) (omega arith)

-- two parts appended in turn are appended as one
pub AppendsAll-slice : (s m t : Sink) (xs : List ℕ) (at n k : ℕ) → AppendsAll s m (slice xs at n) → AppendsAll m t (slice xs (at + n) k) → AppendsAll s t (slice xs at (n + k))
AppendsAll-slice s m t xs at n k p q = subst (λ (w : List ℕ). AppendsAll s t w) (sym (slice-add xs at n k)) (all_then s m t _ _ p q)

-- a part that was appended, and a prefix of the next, are a prefix of the whole
pub AppendsFirst-more : (s m t : Sink) (xs : List ℕ) (at done next len k : ℕ) → done + next ≤ len → at + len ≤ length xs → AppendsAll s m (slice xs at done) → AppendsFirst k m t (slice xs (at + done) next) → AppendsFirst (done + k) s t (slice xs at len)
AppendsFirst-more s m t xs at done next len k fits inside all first =
    let whole = length-slice xs at len inside in
    let few : k ≤ next = omega (arith, first.within, length-slice xs (at + done) next (omega arith)) in
    let prefix : AppendsAll m t (slice xs (at + done) k) = record { appended = subst (λ (w : List ℕ). Appends m.contents t.contents w) (take-slice xs (at + done) next k few) first.appended } in
    record {
      within = omega (arith, whole);
      appended = subst (λ (w : List ℕ). Appends s.contents t.contents w) (sym (take-slice xs at len (done + k) (omega arith))) (AppendsAll-slice s m t xs at done k all prefix).appended;
    }
