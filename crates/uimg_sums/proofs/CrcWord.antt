-- The steps of several bytes at once.
use Rattle.std.proofs.Common.{◌≡◌, ◌<◌, ℕ, zero, suc, ◌+◌, ◌*◌, ◌^◌, List, [], ◌∷◌, ◌++◌, length, take, drop, get_or, bit_xor, ◌∙◌, ap, sym, arith}
use Rattle.std.specs.{List.{concat, fold}, Int.{from_le_bytes, w128, Bits.xor_zero_r}}
use Rattle.std.{specs.{Simd.first_chunks, Slice.Scan.digits_from}, proofs.lemmas.Nat.xor_block}
use Rattle.std.proofs.Math.{ListN.drop_of_length-le, Seq.{drop-cons, take-add}}
use Rattle.std.proofs.lemmas.List.{append-nil, take_more, Folds.concat-append, Sums.fold-append}
use lib.Bits.{xor_assoc}
use Rattle.uimg_sums.specs.CrcSteps.{bit_step, bit_steps, byte_step}
use Rattle.uimg_sums.proofs.CrcTable.{bit_steps-xor}

pub bit_steps-more : (k m n x : ℕ) → m ≡ k + n → bit_steps k (bit_steps n x) ≡ bit_steps m x
unfolding bit_steps
bit_steps-more zero m n x e =
    let same : n ≡ m = omega arith in ap (λ (i : ℕ). bit_steps i x) same
bit_steps-more (suc k) zero n x e = absurd (omega arith)
bit_steps-more (suc k) (suc m) n x e = ap bit_step (bit_steps-more k m n x (omega arith))

-- a byte below a number
low_byte : (b n : ℕ) → b < 256 → bit_xor b (n * 2 ^ 8) ≡ b + 256 * n
low_byte b n h =
    let low : b ≡ 0 * 2 ^ 8 + b = omega arith in
    let high : n * 2 ^ 8 ≡ n * 2 ^ 8 + 0 = omega arith in
    ap (λ (x : ℕ). bit_xor x (n * 2 ^ 8)) low
    ∙ ap (bit_xor (0 * 2 ^ 8 + b)) high
    ∙ xor_block 8 0 n b 0 (omega arith) (omega arith)
    ∙ ap (λ (x : ℕ). n * 2 ^ 8 + x) (xor_zero_r b) ∙ omega arith

-- the first byte's step, and then k bit steps with the number of the others added
first_byte : (k m x b n : ℕ) → m ≡ k + 8 → b < 256 → bit_steps k (bit_xor (byte_step x b) n) ≡ bit_steps m (bit_xor x (b + 256 * n))
first_byte k m x b n e h =
    ap (bit_steps k) (sym (bit_steps-xor 8 (bit_xor x b) n) ∙ ap (bit_steps 8) (xor_assoc x b (n * 2 ^ 8) ∙ ap (bit_xor x) (low_byte b n h)))
    ∙ bit_steps-more k m 8 (bit_xor x (b + 256 * n)) e

-- The steps of n bytes are n * 8 bit steps of the register with the bytes' number added.
fold-digits : (bytes : List ℕ) → ((i : ℕ) → get_or bytes i 0 < 256) → (n i x : ℕ) → i + n ≡ length bytes → fold byte_step x (drop i bytes) ≡ bit_steps (n * 8) (bit_xor x (digits_from (λ k. get_or bytes k 0) i n))
unfolding bit_steps
fold-digits bytes small zero i x e =
    ap (fold byte_step x) (drop_of_length-le bytes (omega arith)) ∙ sym (xor_zero_r x)
fold-digits bytes small (suc n) i x e =
    let b = get_or bytes i 0 in
    ap (fold byte_step x) (drop-cons bytes i 0 (omega arith))
    ∙ fold-digits bytes small n (suc i) (byte_step x b) (omega arith)
    ∙ first_byte (n * 8) (suc n * 8) x b (digits_from (λ k. get_or bytes k 0) (suc i) n) (omega arith) (small i)

le_is : (word : List ℕ) → from_le_bytes w128 word ≡ digits_from (λ k. get_or word k 0) 0 16
le_is word = omega arith

-- what the steps of a word leave
pub word_steps : (word : List ℕ) (x : ℕ) → length word ≡ 16 → ((i : ℕ) → get_or word i 0 < 256) → bit_steps (16 * 8) (bit_xor x (from_le_bytes w128 word)) ≡ fold byte_step x word
word_steps word x l small = ap (λ (n : ℕ). bit_steps (16 * 8) (bit_xor x n)) (le_is word) ∙ sym (fold-digits word small 16 0 x (sym l))

-- the chunks hold the prefix of the list
pub concat-first_chunks : (n k : ℕ) (xs : List ℕ) → concat (first_chunks n k xs) ≡ take (k * n) xs
concat-first_chunks n zero xs =
    let none : 0 ≡ zero * n = omega arith in ap (λ (i : ℕ). take i xs) none
concat-first_chunks n (suc k) xs =
    let more : n + k * n ≡ suc k * n = omega arith in
    ap (λ (ys : List ℕ). take n xs ++ ys) (concat-first_chunks n k (drop n xs))
    ∙ sym (take-add n (k * n) xs) ∙ ap (λ (i : ℕ). take i xs) more

-- one more word
pub concat-more : (words : List (List ℕ)) (i : ℕ) → i < length words → concat (take (i + 1) words) ≡ concat (take i words) ++ get_or words i []
concat-more words i h =
    ap concat (take_more words i [] h) ∙ concat-append (take i words) (get_or words i [] ∷ [])
    ∙ ap (λ (w : List ℕ). concat (take i words) ++ w) (append-nil (get_or words i []))

-- and its steps
pub fold-more : (words : List (List ℕ)) (i x : ℕ) → i < length words → fold byte_step (fold byte_step x (concat (take i words))) (get_or words i []) ≡ fold byte_step x (concat (take (i + 1) words))
fold-more words i x h =
    sym (fold-append byte_step x (concat (take i words)) (get_or words i [])) ∙ ap (fold byte_step x) (sym (concat-more words i h))
