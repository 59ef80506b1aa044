-- What rounding up by an alignment gives.
use Rattle.std.proofs.Common.{◌≡◌, ◌≤◌, ◌<◌, ◌^◌, ◌⊎◌, inl, inr, ℕ, ◌+◌, ◌-◌, ◌*◌, ◌/◌, ◌%◌, List, length, replicate, ◌∙◌, length-append, subst, ap, arith}
use Rattle.std.proofs.lemmas.{Bool.cases_lt, Nat.{and_le_r, and_mask, pow_pos, div-add-mod'}}
use Rattle.std.proofs.lemmas.List.{length-replicate}
use lib.Bits.{bit_and, and_self}
use Rattle.uimg_texts.specs.Numbers.{up4}
use Rattle.uimg_blob_writing.specs.{Alignment.{rounded, aligned, padded_by, sized, filling, filled}, declared.blob_end.BlobEnd.BlobEnd}

-- nothing is rounded down
pub aligned-least : (align n : ℕ) → n ≤ aligned align n
unfolding aligned
aligned-least align n = omega (arith, and_le_r ((n + 3) / 4 + (align - 1) / 4) ((align - 1) / 4))

-- nor up by more than the alignment and three bytes
pub aligned-most : (align n : ℕ) → aligned align n ≤ n + align + 3
unfolding aligned
aligned-most align n = omega arith

-- what is rounded is a multiple of 4
pub aligned-words : (align n : ℕ) → up4 (aligned align n) ≡ aligned align n
unfolding aligned
aligned-words align n = omega arith

-- an alignment of 4 is that of the blob's own values
pub aligned-by_four : (n : ℕ) → aligned 4 n ≡ up4 n
unfolding aligned
aligned-by_four n = omega (arith, and_le_r ((n + 3) / 4 + 0) 0)

-- how many bytes there are with the zeros behind them
pub length-padded_by : (align : ℕ) (bytes : List ℕ) → length (padded_by align bytes) ≡ aligned align (length bytes)
length-padded_by align bytes =
    let n = length bytes in
    omega (arith, length-append bytes (replicate (aligned align n - n) 0), length-replicate {A = ℕ} (aligned align n - n) 0, aligned-least align n)

-- a blob is not cut
pub sized-least : (ending : BlobEnd) (n : ℕ) → n ≤ sized ending n
sized-least ending n = omega (arith, aligned-least ending.align n)

pub length-filled : (ending : BlobEnd) (bytes : List ℕ) → length (filled ending bytes) ≡ sized ending (length bytes)
length-filled ending bytes =
    let n = length bytes in
    omega (arith, length-append bytes (filling ending n), length-replicate {A = ℕ} (sized ending n - n) 0, sized-least ending n)

large-step : (ending : BlobEnd) (a b : ℕ) → (b < 2 ^ 36) ⊎ (2 ^ 36 ≤ b) → (b < 2 ^ 36 → a ≡ b) → 4294967295 < sized ending a → 4294967295 < sized ending b
large-step ending a b (inl small) same large = subst (λ (n : ℕ). 4294967295 < sized ending n) (same small) large
large-step ending a b (inr most) same large = omega (arith, most, sized-least ending b)

-- a size that is counted up to 2^36 is too large where the size is
pub large-by : (ending : BlobEnd) (a b : ℕ) → (b < 2 ^ 36 → a ≡ b) → 4294967295 < sized ending a → 4294967295 < sized ending b
large-by ending a b same large = large-step ending a b (cases_lt b (2 ^ 36)) same large

none-step : (mask all : ℕ) → all ≡ mask → all - bit_and all mask ≡ 0
none-step mask all e = ap (λ (n : ℕ). n - bit_and n mask) e ∙ ap (λ (n : ℕ). mask - n) (and_self mask) ∙ omega arith

-- no bytes take none
pub aligned-none : (align : ℕ) → aligned align 0 ≡ 0
unfolding aligned
aligned-none align =
    let mask = (align - 1) / 4 in
    ap (λ (n : ℕ). n * 4) (none-step mask (0 + mask) (omega arith))

-- by a power of two from 4 on, what is rounded is the next multiple of it, in words of four bytes
pub aligned-power : (k n : ℕ) → aligned (2 ^ k * 4) n ≡ ((n + 3) / 4 + (2 ^ k - 1)) / 2 ^ k * 2 ^ k * 4
unfolding aligned
aligned-power k n =
    let words = (n + 3) / 4 in
    let all = words + (2 ^ k - 1) in
    let mask : (2 ^ k * 4 - 1) / 4 ≡ 2 ^ k - 1 = omega (arith, pow_pos k) in
    let left : all - all % 2 ^ k ≡ all / 2 ^ k * 2 ^ k = omega (arith, div-add-mod' all (2 ^ k)) in
    ap (λ (m : ℕ). rounded m words * 4) mask
    ∙ ap (λ (b : ℕ). (all - b) * 4) (and_mask all k)
    ∙ ap (λ (n : ℕ). n * 4) left
