-- Data blocks and salts.
use Rattle.std.proofs.Common.{◌≡◌, ◌≢◌, ℕ, zero, suc, ◌+◌, ◌-◌, ◌%◌, ◌<◌, List, [], ◌∷◌, ◌++◌, length, take, drop, get_or, drop-cons, add-one, bit_xor, Some, None, refl, ap, sym, ◌∙◌, arith}
use Rattle.std.proofs.Math.{ListN.set}
use Rattle.uimg_sums.specs.{Algorithms.digest_size, declared.algo.Algo.Algo}
use Rattle.uimg_rsa.specs.{Mgf1.mgf1, Pss.{xor_octets, without_first_bit, db_length, data_block, salt_of}}

salt-first : (x : ℕ) (xs : List ℕ) → x ≡ 1 → salt_of (x ∷ xs) ≡ Some xs
unfolding salt_of
salt-first x xs e = rw e

salt-zero : (x : ℕ) (xs : List ℕ) → x ≡ 0 → salt_of (x ∷ xs) ≡ salt_of xs
unfolding salt_of
salt-zero x xs e = rw e

salt-none : (x : ℕ) (xs : List ℕ) → x ≢ 0 → x ≢ 1 → salt_of (x ∷ xs) ≡ None
unfolding salt_of
salt-none zero xs p q = absurd (p refl)
salt-none (suc zero) xs p q = absurd (q refl)
salt-none (suc (suc x)) xs p q = refl

parted : (xs : List ℕ) (i : ℕ) → i < length xs → drop i xs ≡ get_or xs i 0 ∷ drop (i + 1) xs
parted xs i h = rw add-one (drop-cons xs i 0 h)

-- a one ends the zeros
pub salt-at : (xs : List ℕ) (i : ℕ) → i < length xs → get_or xs i 0 ≡ 1 → salt_of (drop i xs) ≡ Some (drop (i + 1) xs)
salt-at xs i h e = ap salt_of (parted xs i h) ∙ salt-first (get_or xs i 0) (drop (i + 1) xs) e

-- a zero goes on
pub salt-on : (xs : List ℕ) (i : ℕ) → i < length xs → get_or xs i 0 ≡ 0 → salt_of (drop i xs) ≡ salt_of (drop (i + 1) xs)
salt-on xs i h e = ap salt_of (parted xs i h) ∙ salt-zero (get_or xs i 0) (drop (i + 1) xs) e

-- anything else is no salt
pub salt-refused : (xs : List ℕ) (i : ℕ) → i < length xs → get_or xs i 0 ≢ 0 → get_or xs i 0 ≢ 1 → salt_of (drop i xs) ≡ None
salt-refused xs i h p q = ap salt_of (parted xs i h) ∙ salt-none (get_or xs i 0) (drop (i + 1) xs) p q

pub salt-nowhere : salt_of [] ≡ None
unfolding salt_of
salt-nowhere = refl

pub xor-none : [] ≡ xor_octets [] []
unfolding xor_octets
xor-none = refl

xor-suc : (i : ℕ) (a b : List ℕ) → i < length a → i < length b
    → xor_octets (take (suc i) a) (take (suc i) b) ≡ xor_octets (take i a) (take i b) ++ bit_xor (get_or a i 0) (get_or b i 0) ∷ []
unfolding xor_octets
xor-suc i [] b h l = absurd (omega arith)
xor-suc i (x ∷ a) [] h l = absurd (omega arith)
xor-suc zero (x ∷ a) (y ∷ b) h l = refl
xor-suc (suc i) (x ∷ a) (y ∷ b) h l = ap (λ (w : List ℕ). bit_xor x y ∷ w) (xor-suc i a b (omega arith) (omega arith))

-- one more octet of each
pub xor-more : (i : ℕ) (a b : List ℕ) → i < length a → i < length b
    → xor_octets (take (i + 1) a) (take (i + 1) b) ≡ xor_octets (take i a) (take i b) ++ bit_xor (get_or a i 0) (get_or b i 0) ∷ []
xor-more i a b h l = rw add-one (xor-suc i a b h l)

first-cleared : (n : ℕ) (xs : List ℕ) → 0 < n → take n (set xs 0 (get_or xs 0 0 % 128)) ≡ without_first_bit (take n xs)
unfolding without_first_bit
first-cleared zero xs h = absurd (omega arith)
first-cleared (suc n) [] h = refl
first-cleared (suc n) (x ∷ xs) h = refl

-- a data block is unmasked, and its first bit cleared
pub unmasked : (algo : Algo) (em mask block : List ℕ) (size : ℕ) → size ≡ digest_size algo → 0 < length em - size - 1
    → take (length em - size - 1) mask ≡ mgf1 algo (take ((length em - size - 1) + size - (length em - size - 1)) (drop (length em - size - 1) em)) (length em - size - 1)
    → take (length em - size - 1) block ≡ xor_octets (take (length em - size - 1) em) (take (length em - size - 1) mask)
    → take (db_length algo em) (set block 0 (get_or block 0 0 % 128)) ≡ data_block algo em
unfolding data_block
unmasked algo em mask block size e some masked xored =
    let len : ℕ = length em - size - 1 in
    let kept : len + size - len ≡ size = omega arith in
    let cleared : List ℕ = set block 0 (get_or block 0 0 % 128) in
    ap (λ (k : ℕ). take (length em - k - 1) cleared) (sym e)
    ∙ first-cleared len block some
    ∙ ap without_first_bit (xored ∙ ap (λ (ys : List ℕ). xor_octets (take len em) ys) masked)
    ∙ ap (λ (k : ℕ). without_first_bit (xor_octets (take len em) (mgf1 algo (take k (drop len em)) len))) kept
    ∙ ap (λ (k : ℕ). without_first_bit (xor_octets (take (length em - k - 1) em) (mgf1 algo (take k (drop (length em - k - 1) em)) (length em - k - 1)))) e
