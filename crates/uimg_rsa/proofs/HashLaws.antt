-- Hashes one after another.
use Rattle.std.proofs.Common.{◌≡◌, ℕ, zero, suc, ◌+◌, ◌*◌, ◌/◌, ◌%◌, ◌<◌, ◌≤◌, min, List, [], ◌∷◌, ◌++◌, length, take, get_or, refl, ap, sym, ◌∙◌, add-one, arith}
use Rattle.std.specs.Int.{to_be_bytes, div_ceil, w32}
use Rattle.std.proofs.Math.{Seq.take-append_seam, Nat.{div-add-mod, mod-lt}}
use Rattle.std.proofs.lemmas.List.{take-take}
use Rattle.uimg_sums.specs.{Algorithms.{digest_by, digest_size}, Bundle.padded_digests, declared.algo.Algo.Algo}
use Rattle.uimg_sums.specs.declared.algo.Algo.TheVariants.{Crc16, Crc32, Md5, Sha1, Sha256, Sha384, Sha512}
use Rattle.uimg_sums.proofs.DigestSizes.{length-digest_by}
use Rattle.uimg_rsa.specs.Mgf1.{hashes, mgf1}

-- the digest of a bundle of one sum
pub only-digest : (algo : Algo) (fed : List ℕ) (entries : List (List ℕ × ℕ)) → entries ≡ padded_digests (algo ∷ []) fed
    → take (digest_size algo) (get_or entries 0 ([], 0)).0 ≡ digest_by algo fed
only-digest algo fed entries e =
    let n : ℕ = digest_size algo in
    ap (λ (xs : List (List ℕ × ℕ)). take n (get_or xs 0 ([], 0)).0) e
    ∙ ap (λ (k : ℕ). take k (get_or (padded_digests (algo ∷ []) fed) 0 ([], 0)).0) (sym (length-digest_by algo fed))
    ∙ take-append_seam (digest_by algo fed) _

size-some : (algo : Algo) → 0 < digest_size algo
size-some Crc16 = omega arith
size-some Crc32 = omega arith
size-some Md5 = omega arith
size-some Sha1 = omega arith
size-some Sha256 = omega arith
size-some Sha384 = omega arith
size-some Sha512 = omega arith

pub hashes-none : (algo : Algo) (seed : List ℕ) → [] ≡ hashes algo seed 0
unfolding hashes
hashes-none algo seed = refl

-- one more hash
pub hashes-more : (algo : Algo) (seed counter hash old new : List ℕ) (n at size : ℕ) → take at old ≡ hashes algo seed n
    → size ≡ digest_size algo → counter ≡ to_be_bytes w32 n → take (digest_size algo) hash ≡ digest_by algo (seed ++ counter)
    → take (at + length (take size hash)) new ≡ take at old ++ take size hash → take (at + size) new ≡ hashes algo seed (n + 1)
unfolding hashes
hashes-more algo seed counter hash old new n at size before sized counted hashed put =
    let next : List ℕ = digest_by algo (seed ++ to_be_bytes w32 n) in
    let e : take size hash ≡ next = ap (λ (k : ℕ). take k hash) sized ∙ hashed ∙ ap (λ (w : List ℕ). digest_by algo (seed ++ w)) counted in
    let long : size ≡ length (take size hash) = sized ∙ sym (ap length e ∙ length-digest_by algo (seed ++ to_be_bytes w32 n)) in
    rw add-one (ap (λ (k : ℕ). take (at + k) new) long ∙ put ∙ ap (λ (xs : List ℕ). xs ++ take size hash) before ∙ ap (λ (xs : List ℕ). hashes algo seed n ++ xs) e)

at-least : (r size : ℕ) → r ≤ size → r ≤ min 1 r * size
at-least zero size h = omega arith
at-least (suc r) size h =
    let one : min 1 (suc r) ≡ 1 = omega arith in
    omega (arith, ap (λ (k : ℕ). k * size) one)

-- a quotient that is rounded up
enough : (n size : ℕ) → 0 < size → n ≤ div_ceil n size * size
enough n size some =
    let parts : size * (n / size) + n % size ≡ n = div-add-mod n size in
    let less : n % size < size = mod-lt n some in
    omega (arith, parts, at-least (n % size) size (omega arith))

-- a front of enough hashes
pub mask-front : (algo : Algo) (seed mask : List ℕ) (len n : ℕ) → n ≡ div_ceil len (digest_size algo)
    → take (n * digest_size algo) mask ≡ hashes algo seed n → take len mask ≡ mgf1 algo seed len
unfolding mgf1
mask-front algo seed mask len n e h =
    let most : len ≤ n * digest_size algo = rw e (enough len (digest_size algo) (size-some algo)) in
    sym (take-take len (n * digest_size algo) mask most) ∙ ap (take len) h ∙ ap (λ (k : ℕ). take len (hashes algo seed k)) e

pub size-most : (algo : Algo) → digest_size algo ≤ 64
size-most Crc16 = omega arith
size-most Crc32 = omega arith
size-most Md5 = omega arith
size-most Sha1 = omega arith
size-most Sha256 = omega arith
size-most Sha384 = omega arith
size-most Sha512 = omega arith
