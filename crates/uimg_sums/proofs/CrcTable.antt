-- A byte's eight bit steps by the table.
use Rattle.std.proofs.Common.{◌≡◌, ◌<◌, ℕ, zero, suc, ◌+◌, ◌*◌, ◌/◌, ◌%◌, ◌^◌, List, [], map, Bool, true, false, nat_eq, cond, bit_xor, ◌∙◌, ap, sym, refl, arith, get_or}
use Rattle.std.specs.{List.range_with_len, Int.Bits.xor_zero_r}
use Rattle.std.proofs.lemmas.List.FromFn.{get_or-map-range_with_len}
use Rattle.std.proofs.{lemmas.Nat.{xor_shr, xor_mod, xor_comm, xor_block}, Math.Nat.pow-succ'}
use lib.Bits.{xor_assoc}
use Rattle.uimg_sums.specs.CrcSteps.{bit_step, bit_steps}
use Rattle.uimg_sums.specs.declared.crc_table.TheConstants.{CRC_TABLES}

-- each word of the tables, by computation
tables_are : CRC_TABLES ≡ map (λ k. map (bit_steps (8 * (k + 1))) (range_with_len 0 256)) (range_with_len 0 16)
unfolding bit_steps
tables_are = refl

pub tables_at : (k i : ℕ) → k < 16 → i < 256 → get_or (get_or CRC_TABLES k []) i 0 ≡ bit_steps (8 * (k + 1)) i
tables_at k i h l =
    ap (λ (w : List (List ℕ)). get_or (get_or w k []) i 0) tables_are
    ∙ ap (λ (w : List ℕ). get_or w i 0) (get_or-map-range_with_len (λ k. map (bit_steps (8 * (k + 1))) (range_with_len 0 256)) 0 16 k k [] h (omega arith))
    ∙ get_or-map-range_with_len (bit_steps (8 * (k + 1))) 0 256 i i 0 l (omega arith)

pub xor_swap : (a b c : ℕ) → bit_xor (bit_xor a b) c ≡ bit_xor (bit_xor a c) b
xor_swap a b c = xor_assoc a b c ∙ ap (bit_xor a) (xor_comm b c) ∙ sym (xor_assoc a c b)

choose_xor : (odd : Bool) (a b c : ℕ) → cond odd (bit_xor (bit_xor a b) c) (bit_xor a b) ≡ bit_xor (cond odd (bit_xor a c) a) b
choose_xor true a b c = xor_swap a b c
choose_xor false a b c = refl

-- a bit step of a sum of which the second number is even
bit_step-xor : (a b : ℕ) → bit_step (bit_xor a (b * 2)) ≡ bit_xor (bit_step a) b
bit_step-xor a b =
    let low : bit_xor a (b * 2) % 2 ≡ a % 2 = xor_mod a (b * 2) 1 ∙ ap (bit_xor (a % 2)) (omega arith) ∙ xor_zero_r (a % 2) in
    let high : bit_xor a (b * 2) / 2 ≡ bit_xor (a / 2) b = xor_shr a (b * 2) 1 ∙ ap (bit_xor (a / 2)) (omega arith) in
    ap (λ (n : ℕ). cond (nat_eq n 1) (bit_xor (bit_xor a (b * 2) / 2) 0xEDB88320) (bit_xor a (b * 2) / 2)) low
    ∙ ap (λ (n : ℕ). cond (nat_eq (a % 2) 1) (bit_xor n 0xEDB88320) n) high
    ∙ choose_xor (nat_eq (a % 2) 1) (a / 2) b 0xEDB88320

-- k bit steps only move what stands above the k lowest bits
pub bit_steps-xor : (k a b : ℕ) → bit_steps k (bit_xor a (b * 2 ^ k)) ≡ bit_xor (bit_steps k a) b
unfolding bit_steps
bit_steps-xor zero a b = ap (bit_xor a) (omega arith)
bit_steps-xor (suc k) a b =
    let double : b * 2 ^ suc k ≡ b * 2 * 2 ^ k = ap (λ (n : ℕ). b * n) (pow-succ' 2 k) ∙ omega arith in
    ap (λ (n : ℕ). bit_step (bit_steps k (bit_xor a n))) double
    ∙ ap bit_step (bit_steps-xor k a (b * 2))
    ∙ bit_step-xor (bit_steps k a) b

-- a number is its lowest eight bits and the others
by_bytes : (x : ℕ) → bit_xor (x % 256) (x / 256 * 2 ^ 8) ≡ x
by_bytes x =
    let low : x % 256 ≡ 0 * 2 ^ 8 + x % 256 = omega arith in
    let high : x / 256 * 2 ^ 8 ≡ x / 256 * 2 ^ 8 + 0 = omega arith in
    ap (λ (n : ℕ). bit_xor n (x / 256 * 2 ^ 8)) low
    ∙ ap (bit_xor (0 * 2 ^ 8 + x % 256)) high
    ∙ xor_block 8 0 (x / 256) (x % 256) 0 (omega arith) (omega arith)
    ∙ ap (λ (n : ℕ). x / 256 * 2 ^ 8 + n) (xor_zero_r (x % 256)) ∙ omega arith

pub eight_steps : (x : ℕ) → bit_steps 8 x ≡ bit_xor (bit_steps 8 (x % 256)) (x / 256)
eight_steps x = ap (bit_steps 8) (sym (by_bytes x)) ∙ bit_steps-xor 8 (x % 256) (x / 256)
