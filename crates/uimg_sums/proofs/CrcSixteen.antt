-- Steps of sums, and the steps of several bytes by the tables.
use Rattle.std.proofs.Common.{◌≡◌, ◌<◌, ℕ, zero, suc, ◌+◌, ◌*◌, ◌/◌, ◌%◌, ◌^◌, nat_eq, cond, bit_xor, ◌∙◌, ap, sym, refl, arith}
use Rattle.std.specs.Int.Bits.{xor_zero_r, xor_self}
use Rattle.std.proofs.lemmas.Nat.{xor_block, xor_shr, xor_mod, xor_comm}
use lib.Bits.{xor_assoc}
use Rattle.uimg_sums.specs.CrcSteps.{bit_step, bit_steps}
use Rattle.uimg_sums.proofs.CrcTable.{xor_swap, eight_steps, bit_steps-xor}
use Rattle.uimg_sums.proofs.CrcWord.{bit_steps-more}

add_same : (a b c : ℕ) → bit_xor a b ≡ bit_xor (bit_xor a c) (bit_xor b c)
add_same a b c = sym (xor_assoc a c (bit_xor b c) ∙ ap (bit_xor a) (xor_comm c (bit_xor b c) ∙ xor_assoc b c c ∙ ap (bit_xor b) (xor_self c) ∙ xor_zero_r b))

add_steps : (p q a b c : ℕ) → p < 2 → q < 2 → cond (nat_eq (bit_xor p q) 1) (bit_xor (bit_xor a b) c) (bit_xor a b) ≡ bit_xor (cond (nat_eq p 1) (bit_xor a c) a) (cond (nat_eq q 1) (bit_xor b c) b)
add_steps zero zero a b c h k = refl
add_steps zero (suc zero) a b c h k = xor_assoc a b c
add_steps (suc zero) zero a b c h k = xor_swap a b c
add_steps (suc zero) (suc zero) a b c h k = add_same a b c
add_steps zero (suc (suc q)) a b c h k = absurd (omega arith)
add_steps (suc zero) (suc (suc q)) a b c h k = absurd (omega arith)
add_steps (suc (suc p)) q a b c h k = absurd (omega arith)

-- a bit step of a sum is the sum of the bit steps
bit_step-add : (a b : ℕ) → bit_step (bit_xor a b) ≡ bit_xor (bit_step a) (bit_step b)
bit_step-add a b =
    ap (λ (n : ℕ). cond (nat_eq n 1) (bit_xor (bit_xor a b / 2) 0xEDB88320) (bit_xor a b / 2)) (xor_mod a b 1)
    ∙ ap (λ (n : ℕ). cond (nat_eq (bit_xor (a % 2) (b % 2)) 1) (bit_xor n 0xEDB88320) n) (xor_shr a b 1)
    ∙ add_steps (a % 2) (b % 2) (a / 2) (b / 2) 0xEDB88320 (omega arith) (omega arith)

bit_steps-add : (k a b : ℕ) → bit_steps k (bit_xor a b) ≡ bit_xor (bit_steps k a) (bit_steps k b)
unfolding bit_steps
bit_steps-add zero a b = refl
bit_steps-add (suc k) a b = ap bit_step (bit_steps-add k a b) ∙ bit_step-add (bit_steps k a) (bit_steps k b)

pub both : {a b c d : ℕ} → a ≡ c → b ≡ d → bit_xor a b ≡ bit_xor c d
both {a} {b} {c} {d} e f = ap (λ (i : ℕ). bit_xor i b) e ∙ ap (bit_xor c) f

next_byte : (k m x y : ℕ) → m ≡ k + 8 → y ≡ x / 256 → bit_steps m x ≡ bit_xor (bit_steps k y) (bit_steps m (x % 256))
next_byte k m x y e f =
    sym (bit_steps-more k m 8 x e)
    ∙ ap (bit_steps k) (eight_steps x ∙ xor_comm (bit_steps 8 (x % 256)) (x / 256) ∙ ap (λ (i : ℕ). bit_xor i (bit_steps 8 (x % 256))) (sym f))
    ∙ bit_steps-add k y (bit_steps 8 (x % 256))
    ∙ ap (bit_xor (bit_steps k y)) (bit_steps-more k m 8 (x % 256) e)

next_sum : (k m x y s : ℕ) → m ≡ k + 8 → y ≡ x / 256 → bit_steps k y ≡ s → bit_steps m x ≡ bit_xor s (bit_steps m (x % 256))
next_sum k m x y s e f g = next_byte k m x y e f ∙ ap (λ (i : ℕ). bit_xor i (bit_steps m (x % 256))) g

-- a table step of each byte of a number, with k zeros after them
pub table_steps : (k x : ℕ) → x < 2 ^ 64 → bit_steps (8 * (k + 8)) x ≡ bit_xor (bit_xor (bit_xor (bit_xor (bit_xor (bit_xor (bit_xor (bit_steps (8 * (k + 1)) (x / 2 ^ 56 % 256)) (bit_steps (8 * (k + 1 + 1)) (x / 2 ^ 48 % 256))) (bit_steps (8 * (k + 2 + 1)) (x / 2 ^ 40 % 256))) (bit_steps (8 * (k + 3 + 1)) (x / 2 ^ 32 % 256))) (bit_steps (8 * (k + 4 + 1)) (x / 2 ^ 24 % 256))) (bit_steps (8 * (k + 5 + 1)) (x / 2 ^ 16 % 256))) (bit_steps (8 * (k + 6 + 1)) (x / 2 ^ 8 % 256))) (bit_steps (8 * (k + 7 + 1)) (x % 256))
table_steps k x h =
    let last : x / 2 ^ 56 ≡ x / 2 ^ 56 % 256 = omega arith in
    let all : 8 * (k + 8) ≡ 8 * (k + 7 + 1) = omega arith in
    let s0 = bit_steps (8 * (k + 1)) (x / 2 ^ 56 % 256) in
    let s1 = bit_xor s0 (bit_steps (8 * (k + 1 + 1)) (x / 2 ^ 48 % 256)) in
    let s2 = bit_xor s1 (bit_steps (8 * (k + 2 + 1)) (x / 2 ^ 40 % 256)) in
    let s3 = bit_xor s2 (bit_steps (8 * (k + 3 + 1)) (x / 2 ^ 32 % 256)) in
    let s4 = bit_xor s3 (bit_steps (8 * (k + 4 + 1)) (x / 2 ^ 24 % 256)) in
    let s5 = bit_xor s4 (bit_steps (8 * (k + 5 + 1)) (x / 2 ^ 16 % 256)) in
    let s6 = bit_xor s5 (bit_steps (8 * (k + 6 + 1)) (x / 2 ^ 8 % 256)) in
    let s7 = bit_xor s6 (bit_steps (8 * (k + 7 + 1)) (x % 256)) in
    ap (λ (n : ℕ). bit_steps n x) all
    ∙ next_sum (8 * (k + 6 + 1)) (8 * (k + 7 + 1)) x (x / 2 ^ 8) s6 (omega arith) (omega arith) (next_sum (8 * (k + 5 + 1)) (8 * (k + 6 + 1)) (x / 2 ^ 8) (x / 2 ^ 16) s5 (omega arith) (omega arith) (next_sum (8 * (k + 4 + 1)) (8 * (k + 5 + 1)) (x / 2 ^ 16) (x / 2 ^ 24) s4 (omega arith) (omega arith) (next_sum (8 * (k + 3 + 1)) (8 * (k + 4 + 1)) (x / 2 ^ 24) (x / 2 ^ 32) s3 (omega arith) (omega arith) (next_sum (8 * (k + 2 + 1)) (8 * (k + 3 + 1)) (x / 2 ^ 32) (x / 2 ^ 40) s2 (omega arith) (omega arith) (next_sum (8 * (k + 1 + 1)) (8 * (k + 2 + 1)) (x / 2 ^ 40) (x / 2 ^ 48) s1 (omega arith) (omega arith) (next_sum (8 * (k + 1)) (8 * (k + 1 + 1)) (x / 2 ^ 48) (x / 2 ^ 56) s0 (omega arith) (omega arith) (ap (bit_steps (8 * (k + 1))) last)))))))

by_halves : (x : ℕ) → bit_xor (x % 2 ^ 64) (x / 2 ^ 64 * 2 ^ 64) ≡ x
by_halves x =
    let low : x % 2 ^ 64 ≡ 0 * 2 ^ 64 + x % 2 ^ 64 = omega arith in
    let high : x / 2 ^ 64 * 2 ^ 64 ≡ x / 2 ^ 64 * 2 ^ 64 + 0 = omega arith in
    ap (λ (n : ℕ). bit_xor n (x / 2 ^ 64 * 2 ^ 64)) low
    ∙ ap (bit_xor (0 * 2 ^ 64 + x % 2 ^ 64)) high
    ∙ xor_block 64 0 (x / 2 ^ 64) (x % 2 ^ 64) 0 (omega arith) (omega arith)
    ∙ ap (λ (n : ℕ). x / 2 ^ 64 * 2 ^ 64 + n) (xor_zero_r (x % 2 ^ 64)) ∙ omega arith

-- the steps of a sum's low half with eight zeros after it, and those of the high one
pub half_steps : (x n : ℕ) → bit_xor (bit_steps (8 * 8) (n / 2 ^ 64)) (bit_steps (8 * 16) (bit_xor x (n % 2 ^ 64))) ≡ bit_steps (16 * 8) (bit_xor x n)
half_steps x n =
    let low = bit_xor x (n % 2 ^ 64) in
    let high = n / 2 ^ 64 in
    let whole : bit_xor x n ≡ bit_xor low (high * 2 ^ 64) =
    ap (bit_xor x) (sym (by_halves n)) ∙ sym (xor_assoc x (n % 2 ^ 64) (high * 2 ^ 64)) in
    sym (
    sym (bit_steps-more 64 128 64 (bit_xor x n) refl)
    ∙ ap (bit_steps 64) (ap (bit_steps 64) whole ∙ bit_steps-xor 64 low high ∙ xor_comm (bit_steps 64 low) high)
    ∙ bit_steps-add 64 high (bit_steps 64 low)
    ∙ ap (bit_xor (bit_steps 64 high)) (bit_steps-more 64 128 64 low refl)
    )
