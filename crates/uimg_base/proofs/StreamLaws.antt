-- Several reads, one after another.
use Rattle.std.proofs.Common.{◌≡◌, ◌≤◌, ℕ, ◌+◌, List, ◌++◌, length, take, Option, Some, None, ◌∙◌, ap, sym, subst, arith}
use Rattle.std.proofs.Math.Seq.{take-append-add}
use Rattle.std.proofs.lemmas.List.{take-take, length-take-le}
use Rattle.std.proofs.lemmas.Slice.{take-put_mid}
use borrow.Rule.Slice.PartMut.{put_mid}
use Rattle.uimg_base.specs.Streams.{Stream, moved_to, ReadsOn}
use Rattle.uimg_base.proofs.Slices.{slice-add}

-- a slice that is written behind `at` bytes: those, and its first n
pub take-written : (at k n : ℕ) (to more : List ℕ) → at ≤ length to → length more ≡ k → n ≤ k → take (at + n) (put_mid at k to more) ≡ take at to ++ take n more
take-written at k n to more inside long few =
    let front = length-take-le at to inside in
    sym (take-take (at + n) (at + k) (put_mid at k to more) (omega arith))
    ∙ ap (take (at + n)) (take-put_mid at k to more (at + k) (omega arith) inside)
    ∙ ap (λ m. take (m + n) (take at to ++ more)) (sym front)
    ∙ take-append-add (take at to) more n

-- `at` bytes were read, and then n more behind them
pub reads_more : (at k n : ℕ) (a b c : Option Stream) (to more : List ℕ) → at ≤ length to → length more ≡ k → n ≤ k
    → ReadsOn at a b to → ReadsOn n b c more → ReadsOn (at + n) a c (put_mid at k to more)
reads_more at k n None b c to more inside long few first next = subst (λ (o : Option Stream). ReadsOn n o c more) first next
reads_more at k n (Some s) b c to more inside long few first next =
    let second = subst (λ (o : Option Stream). ReadsOn n o c more) first.0 next in (
      second.0 ∙ ap (λ p. Some (moved_to p s)) (omega arith),
      take-written at k n to more inside long few
          ∙ (λ i. first.1 i ++ second.1 i)
          ∙ sym (slice-add s.bytes s.position at n),
    )
