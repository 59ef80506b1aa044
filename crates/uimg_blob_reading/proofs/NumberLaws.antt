-- Slices of slices, and the numbers in them.
use Rattle.std.proofs.Common.{◌≡◌, ◌≤◌, ℕ, ◌+◌, ◌-◌, List, take, drop, min, inl, inr, length-take, ◌∙◌, ap, sym, arith}
use Rattle.std.specs.Int.{from_be_bytes, w32}
use Rattle.std.proofs.lemmas.{List.{take-take, take_all, drop-take, drop-drop}, Bool.cases_lt}
use Rattle.uimg_texts.specs.{Slices.slice, Numbers.be32}
use Rattle.uimg_blob_reading.specs.{Tokens.reach, Extents.HeadsFile}

-- a slice of a slice is a slice of the whole
pub slice-slice : (xs : List ℕ) (at n k m : ℕ) → k + m ≤ n → slice (slice xs at n) k m ≡ slice xs (at + k) m
slice-slice xs at n k m h =
    let split : n ≡ k + (n - k) = omega arith in
    ap (λ (i : ℕ). take m (drop k (take i (drop at xs)))) split
    ∙ ap (take m) (drop-take k (n - k) (drop at xs))
    ∙ take-take m (n - k) (drop k (drop at xs)) (omega arith)
    ∙ ap (take m) (drop-drop k at xs)

-- a number in a slice
pub be32-slice : (xs : List ℕ) (at n k : ℕ) → k + 4 ≤ n → be32 (slice xs at n) k ≡ be32 xs (at + k)
unfolding be32
be32-slice xs at n k h = ap (λ (w : List ℕ). from_be_bytes w32 w) (slice-slice xs at n k 4 h)

-- the bytes near a name are a slice
pub reach-slice : (xs : List ℕ) (at end : ℕ) → reach xs at end ≡ slice xs at (min 256 (end - at))
reach-slice xs at end = elim (cases_lt (end - at) 256) [
  | inl less ↦
      let few : min 256 (end - at) ≡ end - at = omega arith in
      take_all 256 (take (end - at) (drop at xs)) (simp length-take (omega arith)) ∙ ap (λ (n : ℕ). slice xs at n) (sym few)
  | inr more ↦
      let all : min 256 (end - at) ≡ 256 = omega arith in
      take-take 256 (end - at) (drop at xs) more ∙ ap (λ (n : ℕ). slice xs at n) (sym all)
]

-- a number at the beginning of a list
pub be32-prefix : (xs prefix : List ℕ) (n k : ℕ) → prefix ≡ slice xs 0 n → k + 4 ≤ n → be32 xs k ≡ be32 prefix k
be32-prefix xs prefix n k e h =
    let start : 0 + k ≡ k = omega arith in
    ap (λ (i : ℕ). be32 xs i) (sym start) ∙ sym (be32-slice xs 0 n k h) ∙ ap (λ (w : List ℕ). be32 w k) (sym e)

-- the numbers of a file's first 40 bytes
pub heads : (file header : List ℕ) → header ≡ slice file 0 40 → HeadsFile header file
heads file header e = record {
  magic = be32-prefix file header 40 0 e (omega arith);
  totalsize = be32-prefix file header 40 4 e (omega arith);
  structure = be32-prefix file header 40 8 e (omega arith);
  strings = be32-prefix file header 40 12 e (omega arith);
  version = be32-prefix file header 40 20 e (omega arith);
  compatible = be32-prefix file header 40 24 e (omega arith);
  strings_size = be32-prefix file header 40 32 e (omega arith);
  structure_size = be32-prefix file header 40 36 e (omega arith);
}
