-- Parts that are taken, each with the bytes behind it.
use Rattle.std.proofs.Common.{◌≡◌, ◌≤◌, ◌+◌, ◌-◌, ℕ, List, [], ◌++◌, length, take, drop, length-append, Bool, IsTrue, Option, Some, None, ap, sym, subst, ◌∙◌, arith}
use Rattle.std.specs.{Io.KnownBytes.Appends, Int.{from_be_bytes, w32}}
use Rattle.std.proofs.lemmas.List.{append_assoc, take-take, take-append-le, take_all}
use Rattle.uimg_sums.specs.{declared.crc.Crc.Crc, CrcSums.Holds}
use Rattle.uimg_texts.specs.{Slices.slice, Numbers.be32}
use Rattle.uimg_base.{specs.Device.{Device, SameDevice}, proofs.Slices.slice-add}
use Rattle.uimg_legacy.specs.Unpacking.{Part, part_if}
use Rattle.uimg_legacy.specs.UnpackingSteps.{SumsPieceBetween, TakesPartBetween, TakesPaddedBetween}

-- the word at a place
pub word_at : (bytes word : List ℕ) (at : ℕ) → word ≡ slice bytes at 4 → be32 word 0 ≡ be32 bytes at
unfolding be32
word_at bytes word at e = ap (λ (xs : List ℕ). from_be_bytes w32 (take 4 xs)) e ∙ ap (λ (xs : List ℕ). from_be_bytes w32 xs) (take-take 4 4 (drop at bytes) (omega arith))

-- what an empty shelf holds after bytes were appended
filled : (c : Option (List ℕ)) (bytes : List ℕ) → Appends (Some []) c bytes → c ≡ Some bytes
filled (Some xs) bytes e = ap (λ (l : List ℕ). Some l) e
filled None bytes e = absurd e

pub filled_by : (a c : Option (List ℕ)) (bytes : List ℕ) → a ≡ Some [] → Appends a c bytes → c ≡ Some bytes
filled_by a c bytes empty appended = filled c bytes (subst (λ (o : Option (List ℕ)). Appends o c bytes) empty appended)

-- the first bytes of two pieces are the first piece
first_of : (xs ys : List ℕ) (n : ℕ) → length xs ≡ n → take n (xs ++ ys) ≡ xs
first_of xs ys n e = take-append-le n xs ys (omega (arith, e)) ∙ take_all n xs (omega (arith, e))

-- a part, and the bytes behind it, of the device as it was before, by other names of its places
pub padded : (asked wanted honest : Bool) (number : ℕ) (d e f : Device) (at len size all whole : ℕ) (a b c : Crc) (from to : List Part) → SameDevice d e → SameDevice d f → asked ≡ wanted → len ≡ size → all ≡ whole → len ≤ all → TakesPartBetween asked honest number e at len a b from to → SumsPieceBetween f (at + len) (all - len) b c → TakesPaddedBetween wanted honest number d at size whole a c from to
padded asked wanted honest number d e f at len size all whole a b c from to de df ask sized summed h p q = record {
  sums = record {
    piece = p.sums.piece ++ q.piece;
    size = length-append p.sums.piece q.piece ∙ omega (arith, p.sums.size, q.size, summed, h);
    summed = λ fed holds. subst (λ (xs : List ℕ). Holds c xs) (append_assoc fed p.sums.piece q.piece) (q.summed (fed ++ p.sums.piece) (p.sums.summed fed holds));
    right = λ true_one.
        let first = p.sums.right (subst (λ (x : Bool). IsTrue x) (sym de.honest) true_one) ∙ ap (λ (xs : List ℕ). slice xs at len) de.bytes in
        let next = q.right (subst (λ (x : Bool). IsTrue x) (sym df.honest) true_one) ∙ ap (λ (xs : List ℕ). slice xs (at + len) (all - len)) df.bytes in
        let sum : len + (all - len) ≡ whole = omega (arith, summed, h) in
        ap (λ (xs : List ℕ). xs ++ q.piece) first ∙ ap (λ (xs : List ℕ). slice d.bytes at len ++ xs) next ∙ sym (slice-add d.bytes at len (all - len)) ∙ ap (λ (n : ℕ). slice d.bytes at n) sum;
  };
  held = λ known. p.held known ∙ ap (λ (b : Bool). from ++ part_if b number p.sums.piece) ask ∙ ap (λ (xs : List ℕ). from ++ part_if wanted number xs) (sym (first_of p.sums.piece q.piece size (p.sums.size ∙ sized)));
}
