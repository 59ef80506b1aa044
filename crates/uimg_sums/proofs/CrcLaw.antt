-- The register after a message is the remainder.
use Rattle.std.proofs.Common.{◌≡◌, ◌≤◌, ◌<◌, ℕ, zero, suc, ◌+◌, ◌-◌, ◌*◌, ◌/◌, ◌%◌, ◌^◌, List, [], ◌∷◌, ◌++◌, map, length, take, drop, replicate, Bool, true, false, not, nat_eq, cond, bit_xor, ◌∙◌, ap, sym, subst, refl, arith, append_assoc, length-append, get_or, lit<}
use Rattle.std.{proofs.lemmas.List.length-map, specs.List.{flat_map, fold, AllByRecursion}}
use Rattle.std.proofs.{lemmas.Nat.{xor_of_32, xor_shr, xor_mod, xor_comm}, Math.Nat.pow-succ'}
use Rattle.std.proofs.lemmas.List.Sums.{fold-append}
use Rattle.uimg_sums.specs.Crc.{bits, number_of, xor, xor_bits, polynomial, rem_by, rem, dividend, invert_prefix, crc}
use Rattle.uimg_sums.specs.CrcSteps.{bit_step, bit_steps, byte_step, register_of}

-- one bit of a sum
add_bit : (p q : ℕ) (b : Bool) → p < 2 → q < 2 → xor (nat_eq p 1) (xor (nat_eq q 1) b) ≡ xor (nat_eq (bit_xor p q) 1) b
add_bit zero zero b h k = refl
add_bit zero (suc zero) b h k = refl
add_bit (suc zero) zero b h k = refl
add_bit (suc zero) (suc zero) true h k = refl
add_bit (suc zero) (suc zero) false h k = refl
add_bit zero (suc (suc q)) b h k = absurd (omega arith)
add_bit (suc zero) (suc (suc q)) b h k = absurd (omega arith)
add_bit (suc (suc p)) q b h k = absurd (omega arith)

-- adding twice is adding the sum
pub xor_bits-twice : (k x y : ℕ) (bs : List Bool) → xor_bits (bits k x) (xor_bits (bits k y) bs) ≡ xor_bits (bits k (bit_xor x y)) bs
unfolding xor_bits bits
xor_bits-twice zero x y bs = refl
xor_bits-twice (suc k) x y [] = refl
xor_bits-twice (suc k) x y (b ∷ bs) =
    let low : bit_xor x y % 2 ≡ bit_xor (x % 2) (y % 2) = xor_mod x y 1 in
    let high : bit_xor x y / 2 ≡ bit_xor (x / 2) (y / 2) = xor_shr x y 1 in
    ap (λ (c : Bool). c ∷ xor_bits (bits k (x / 2)) (xor_bits (bits k (y / 2)) bs)) (add_bit (x % 2) (y % 2) b (omega arith) (omega arith) ∙ ap (λ (n : ℕ). xor (nat_eq n 1) b) (sym low))
    ∙ ap (λ (w : List Bool). xor (nat_eq (bit_xor x y % 2) 1) b ∷ w) (xor_bits-twice k (x / 2) (y / 2) bs ∙ ap (λ (n : ℕ). xor_bits (bits k n) bs) (sym high))

pub xor_bits-zero_bits : (k : ℕ) (bs : List Bool) → xor_bits (bits k 0) bs ≡ bs
unfolding xor_bits bits
xor_bits-zero_bits zero bs = refl
xor_bits-zero_bits (suc k) [] = refl
xor_bits-zero_bits (suc k) (b ∷ bs) = ap (λ (w : List Bool). b ∷ w) (xor_bits-zero_bits k bs)

-- bits above the number do not matter
pub xor_bits-more_bits : (k j x n : ℕ) (bs : List Bool) → n ≡ k + j → x < 2 ^ k → xor_bits (bits n x) bs ≡ xor_bits (bits k x) bs
unfolding xor_bits bits
xor_bits-more_bits zero j x n bs e h =
    let none : x ≡ 0 = omega arith in
    ap (λ (y : ℕ). xor_bits (bits n y) bs) none ∙ xor_bits-zero_bits n bs
xor_bits-more_bits (suc k) j x zero bs e h = absurd (omega arith)
xor_bits-more_bits (suc k) j x (suc n) [] e h = refl
xor_bits-more_bits (suc k) j x (suc n) (b ∷ bs) e h =
    ap (λ (w : List Bool). xor (nat_eq (x % 2) 1) b ∷ w) (xor_bits-more_bits k j (x / 2) n bs (omega arith) (grind arith))

-- the first bit of a sum, and the others
xor_bits-cons : (k x : ℕ) (b : Bool) (bs : List Bool) → xor_bits (bits (suc k) x) (b ∷ bs) ≡ xor (nat_eq (x % 2) 1) b ∷ xor_bits (bits k (x / 2)) bs
unfolding xor_bits bits
xor_bits-cons k x b bs = refl

polynomial-xor_bits : (y : ℕ) (bs : List Bool) → y < 2 ^ 31 → xor_bits polynomial (xor_bits (bits 31 y) bs) ≡ xor_bits (bits 32 (bit_xor y 0xEDB88320)) bs
unfolding polynomial
polynomial-xor_bits y bs h =
    ap (λ (w : List Bool). xor_bits (bits 32 0xEDB88320) w) (sym (xor_bits-more_bits 31 1 y 32 bs refl h))
    ∙ xor_bits-twice 32 0xEDB88320 y bs ∙ ap (λ (n : ℕ). xor_bits (bits 32 n) bs) (xor_comm 0xEDB88320 y)

rem_by-cons : (c : Bool) (n y : ℕ) (bs : List Bool) → y < 2 ^ 31 → rem_by (suc n) (xor c false ∷ xor_bits (bits 31 y) bs) ≡ rem_by n (xor_bits (bits 32 (cond c (bit_xor y 0xEDB88320) y)) bs)
unfolding rem_by
rem_by-cons true n y bs h = ap (λ (w : List Bool). rem_by n w) (polynomial-xor_bits y bs h)
rem_by-cons false n y bs h = ap (λ (w : List Bool). rem_by n w) (sym (xor_bits-more_bits 31 1 y 32 bs refl h))

-- one bit of the division
rem_by-step : (n x : ℕ) (bs : List Bool) → x < 2 ^ 32 → rem_by (suc n) (xor_bits (bits 32 x) (false ∷ bs)) ≡ rem_by n (xor_bits (bits 32 (bit_step x)) bs)
rem_by-step n x bs h = ap (λ (w : List Bool). rem_by (suc n) w) (xor_bits-cons 31 x false bs) ∙ rem_by-cons (nat_eq (x % 2) 1) n (x / 2) bs (omega arith)

chosen_fits : (c : Bool) (y : ℕ) → y < 2 ^ 31 → cond c (bit_xor y 0xEDB88320) y < 2 ^ 32
chosen_fits true y h = xor_of_32 y 0xEDB88320 (omega arith) (lit< tt)
chosen_fits false y h = omega arith

pub bit_step_fits : (x : ℕ) → x < 2 ^ 32 → bit_step x < 2 ^ 32
bit_step_fits x h = chosen_fits (nat_eq (x % 2) 1) (x / 2) (omega arith)

pub bit_steps_fits : (k x : ℕ) → x < 2 ^ 32 → bit_steps k x < 2 ^ 32
unfolding bit_steps
bit_steps_fits zero x h = h
bit_steps_fits (suc k) x h = bit_step_fits (bit_steps k x) (bit_steps_fits k x h)

pub bit_steps-first : (k x : ℕ) → bit_steps k (bit_step x) ≡ bit_step (bit_steps k x)
unfolding bit_steps
bit_steps-first zero x = refl
bit_steps-first (suc k) x = ap bit_step (bit_steps-first k x)

-- k bits of the division
rem_by-steps : (k m n x : ℕ) (bs : List Bool) → m ≡ k + n → x < 2 ^ 32 → rem_by m (xor_bits (bits 32 x) (replicate k false ++ bs)) ≡ rem_by n (xor_bits (bits 32 (bit_steps k x)) bs)
unfolding bit_steps
rem_by-steps zero m n x bs e h =
    let same : m ≡ n = omega arith in ap (λ (i : ℕ). rem_by i (xor_bits (bits 32 x) bs)) same
rem_by-steps (suc k) zero n x bs e h = absurd (omega arith)
rem_by-steps (suc k) (suc m) n x bs e h =
    rem_by-step m x (replicate k false ++ bs) h
    ∙ rem_by-steps k m n (bit_step x) bs (omega arith) (bit_step_fits x h)
    ∙ ap (λ (y : ℕ). rem_by n (xor_bits (bits 32 y) bs)) (bit_steps-first k x)

bits-append : (k x : ℕ) (bs : List Bool) → bits k x ++ bs ≡ xor_bits (bits k x) (replicate k false ++ bs)
unfolding bits xor_bits
bits-append zero x bs = refl
bits-append (suc k) x bs = lead (nat_eq (x % 2) 1) (bits-append k (x / 2) bs)
  where
    lead : {us vs : List Bool} (b : Bool) → us ≡ vs → b ∷ us ≡ xor b false ∷ vs
    lead true e = ap (λ (w : List Bool). true ∷ w) e
    lead false e = ap (λ (w : List Bool). false ∷ w) e

-- a byte of the message
xor_bits-byte : (x b : ℕ) (bs : List Bool) → b < 256 → xor_bits (bits 32 x) (bits 8 b ++ bs) ≡ xor_bits (bits 32 (bit_xor x b)) (replicate 8 false ++ bs)
xor_bits-byte x b bs h =
    ap (λ (w : List Bool). xor_bits (bits 32 x) w) (bits-append 8 b bs ∙ sym (xor_bits-more_bits 8 24 b 32 (replicate 8 false ++ bs) refl h))
    ∙ xor_bits-twice 32 x b (replicate 8 false ++ bs)

xor_bits-zeros : (k x : ℕ) → xor_bits (bits k x) (replicate k false) ≡ bits k x
unfolding bits xor_bits
xor_bits-zeros zero x = refl
xor_bits-zeros (suc k) x = lead (nat_eq (x % 2) 1) (xor_bits-zeros k (x / 2))
  where
    lead : {us vs : List Bool} (b : Bool) → us ≡ vs → xor b false ∷ us ≡ b ∷ vs
    lead true e = ap (λ (w : List Bool). true ∷ w) e
    lead false e = ap (λ (w : List Bool). false ∷ w) e

-- the whole message, before what is left of the bits
rem_by-message : (zs : List Bool) → ((y : ℕ) → xor_bits (bits 32 y) zs ≡ bits 32 y) → (m : List ℕ) (x n : ℕ) → AllByRecursion (λ b. b < 256) m → x < 2 ^ 32 → n ≡ 8 * length m → rem_by n (xor_bits (bits 32 x) (flat_map (bits 8) m ++ zs)) ≡ bits 32 (fold byte_step x m)
unfolding rem_by
rem_by-message zs same [] x n all h e =
    let none : n ≡ 0 = omega arith in
    ap (λ (i : ℕ). rem_by i (xor_bits (bits 32 x) zs)) none ∙ same x
rem_by-message zs same (b ∷ m) x n all h e =
    let rest = flat_map (bits 8) m ++ zs in
    ap (λ (w : List Bool). rem_by n (xor_bits (bits 32 x) w)) (append_assoc (bits 8 b) (flat_map (bits 8) m) zs)
    ∙ ap (λ (w : List Bool). rem_by n w) (xor_bits-byte x b rest all.0)
    ∙ rem_by-steps 8 n (8 * length m) (bit_xor x b) rest (omega arith) (xor_of_32 x b h (omega (arith, all.0)))
    ∙ rem_by-message zs same m (bit_steps 8 (bit_xor x b)) (8 * length m) all.1 (bit_steps_fits 8 (bit_xor x b) (xor_of_32 x b h (omega (arith, all.0)))) refl

length-bits : (k x : ℕ) → length (bits k x) ≡ k
unfolding bits
length-bits zero x = refl
length-bits (suc k) x = ap suc (length-bits k (x / 2))

length-xor_bits : (xs bs : List Bool) → length (xor_bits xs bs) ≡ length bs
unfolding xor_bits
length-xor_bits [] bs = refl
length-xor_bits (x ∷ xs) [] = refl
length-xor_bits (x ∷ xs) (b ∷ bs) = ap suc (length-xor_bits xs bs)

length-message : (m : List ℕ) → length (flat_map (bits 8) m) ≡ 8 * length m
length-message [] = refl
length-message (b ∷ m) = length-append (bits 8 b) (flat_map (bits 8) m) ∙ ap (λ (n : ℕ). n + length (flat_map (bits 8) m)) (length-bits 8 b) ∙ omega (arith, length-message m)

-- to invert is to xor_bits ones
invert-xor_bits : (k x : ℕ) (bs : List Bool) → x + 1 ≡ 2 ^ k → map not (take k bs) ++ drop k bs ≡ xor_bits (bits k x) bs
unfolding xor_bits bits
invert-xor_bits zero x bs e = refl
invert-xor_bits (suc k) x [] e = refl
invert-xor_bits (suc k) x (b ∷ bs) e =
    let double = pow-succ' 2 k in
    let odd : x % 2 ≡ 1 = omega (arith, double, e) in
    let half : x / 2 + 1 ≡ 2 ^ k = omega (arith, double, e) in
    ap (λ (w : List Bool). not b ∷ w) (invert-xor_bits k (x / 2) bs half) ∙ ap (λ (n : ℕ). xor (nat_eq n 1) b ∷ xor_bits (bits k (x / 2)) bs) (sym odd)

-- the other bit
not_bit : (r : ℕ) → r < 2 → cond (not (nat_eq r 1)) 1 0 + r ≡ 1
not_bit zero h = refl
not_bit (suc zero) h = refl
not_bit (suc (suc r)) h = absurd (omega arith)

-- the number of the bits inverted
number_of-not : (k x : ℕ) → x < 2 ^ k → number_of (map not (bits k x)) + x + 1 ≡ 2 ^ k
unfolding number_of bits
number_of-not zero x h = omega arith
number_of-not (suc k) x h =
    let double = pow-succ' 2 k in
    let rest = number_of-not k (x / 2) (omega (arith, double)) in
    omega (arith, double, rest, not_bit (x % 2) (omega arith))

-- the remainder is the register
rem_is : (m : List ℕ) → AllByRecursion (λ b. b < 256) m → rem (invert_prefix (dividend m)) ≡ bits 32 (register_of m)
unfolding rem invert_prefix dividend
rem_is m all =
    let zs = replicate 32 false in
    let all_bits = flat_map (bits 8) m ++ zs in
    let inverted : map not (take 32 all_bits) ++ drop 32 all_bits ≡ xor_bits (bits 32 4294967295) all_bits = invert-xor_bits 32 4294967295 all_bits refl in
    let long : length (xor_bits (bits 32 4294967295) all_bits) - 32 ≡ 8 * length m =
    omega (arith, length-xor_bits (bits 32 4294967295) all_bits, length-append (flat_map (bits 8) m) zs, length-message m) in
    ap (λ (w : List Bool). rem_by (length w - 32) w) inverted
    ∙ rem_by-message zs (xor_bits-zeros 32) m 4294967295 (length (xor_bits (bits 32 4294967295) all_bits) - 32) all (lit< tt) long

pub register_fits : (m : List ℕ) (x : ℕ) → AllByRecursion (λ b. b < 256) m → x < 2 ^ 32 → fold byte_step x m < 2 ^ 32
register_fits [] x all h = h
register_fits (b ∷ m) x all h = register_fits m (byte_step x b) all.1 (bit_steps_fits 8 (bit_xor x b) (xor_of_32 x b h (omega (arith, all.0))))

-- The register after a message, inverted, is its CRC.
pub crc_is : (m : List ℕ) → AllByRecursion (λ b. b < 256) m → crc m + register_of m + 1 ≡ 2 ^ 32
unfolding crc
crc_is m all =
    ap (λ (w : List Bool). number_of (map not w) + register_of m + 1) (rem_is m all)
    ∙ number_of-not 32 (register_of m) (register_fits m 4294967295 all (lit< tt))

pub register_of-append : (m bytes : List ℕ) → register_of (m ++ bytes) ≡ fold byte_step (register_of m) bytes
register_of-append m bytes = fold-append byte_step (2 ^ 32 - 1) m bytes

pub bytes-append : (m bytes : List ℕ) → AllByRecursion (λ b. b < 256) m → AllByRecursion (λ b. b < 256) bytes → AllByRecursion (λ b. b < 256) (m ++ bytes)
bytes-append [] bytes h k = k
bytes-append (b ∷ m) bytes h k = (h.0, bytes-append m bytes h.1 k)

-- from the elements of a slice
pub bytes_of : (bytes : List ℕ) → ((i : ℕ) → get_or bytes i 0 < 256) → AllByRecursion (λ b. b < 256) bytes
bytes_of [] h = tt
bytes_of (b ∷ bytes) h = (h 0, bytes_of bytes (λ i. h (suc i)))

length-rem_by : (n : ℕ) (bs : List Bool) → n ≤ length bs → length (rem_by n bs) + n ≡ length bs
unfolding rem_by
length-rem_by zero bs h = omega arith
length-rem_by (suc n) [] h = absurd (omega arith)
length-rem_by (suc n) (true ∷ bs) h = omega (arith, length-rem_by n (xor_bits polynomial bs) (omega (arith, length-xor_bits polynomial bs)), length-xor_bits polynomial bs)
length-rem_by (suc n) (false ∷ bs) h = omega (arith, length-rem_by n bs (omega arith))

number_of-fits : (bs : List Bool) → number_of bs < 2 ^ length bs
unfolding number_of
number_of-fits [] = lit< tt
number_of-fits (true ∷ bs) = omega (arith, number_of-fits bs, pow-succ' 2 (length bs))
number_of-fits (false ∷ bs) = omega (arith, number_of-fits bs, pow-succ' 2 (length bs))

-- a CRC has 32 bits
pub crc_fits : (m : List ℕ) → crc m < 2 ^ 32
unfolding crc rem invert_prefix dividend
crc_fits m =
    let zs = replicate 32 false in
    let all_bits = flat_map (bits 8) m ++ zs in
    let inverted = map not (take 32 all_bits) ++ drop 32 all_bits in
    let same : inverted ≡ xor_bits (bits 32 4294967295) all_bits = invert-xor_bits 32 4294967295 all_bits refl in
    let long : length inverted ≡ 8 * length m + 32 = ap length same ∙ omega (arith, length-xor_bits (bits 32 4294967295) all_bits, length-append (flat_map (bits 8) m) zs, length-message m) in
    let left : length (rem_by (length inverted - 32) inverted) ≡ 32 = omega (arith, long, length-rem_by (length inverted - 32) inverted (omega arith)) in
    let bits_left = map not (rem_by (length inverted - 32) inverted) in
    let count : length bits_left ≡ 32 = length-map (rem_by (length inverted - 32) inverted) not ∙ left in
    subst (λ (n : ℕ). number_of bits_left < 2 ^ n) count (number_of-fits bits_left)
