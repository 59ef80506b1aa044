-- The encoded message, part by part.
use Rattle.std.proofs.Common.{◌≡◌, ℕ, suc, ◌+◌, ◌-◌, ◌≤◌, List, [], ◌∷◌, ◌++◌, length, length-append, take, replicate, ap, ◌∙◌, append_assoc, arith}
use Rattle.std.proofs.lemmas.List.{take-replicate}
use Rattle.uimg_sums.specs.declared.algo.Algo.{Algo}
use Rattle.uimg_sums.specs.declared.algo.Algo.TheVariants.{Crc16, Crc32, Md5}
use Rattle.uimg_sums.specs.declared.algo.Algo.TheVariants.{Sha1, Sha256, Sha384, Sha512}
use Rattle.uimg_rsa.specs.Pkcs1.{der_prefix, encoded}

pub prefix-short : (algo : Algo) → length (der_prefix algo) ≤ 19
unfolding der_prefix
prefix-short Crc16 = omega arith
prefix-short Crc32 = omega arith
prefix-short Md5 = omega arith
prefix-short Sha1 = omega arith
prefix-short Sha256 = omega arith
prefix-short Sha384 = omega arith
prefix-short Sha512 = omega arith

-- the octets before the zero that ends the padding
padding : (n m : ℕ) (em : List ℕ) → n + 2 ≡ m → n ≤ 510 → em ≡ 0 ∷ 1 ∷ replicate 510 255 → take m em ≡ 0 ∷ 1 ∷ replicate n 255
padding n m em e h begun =
    let s : m ≡ suc (suc n) = omega arith in
    let whole : List ℕ = 0 ∷ 1 ∷ replicate 510 255 in
    ap (take m) begun ∙ ap (λ (k : ℕ). take k whole) s ∙ ap (λ (xs : List ℕ). 0 ∷ 1 ∷ xs) (take-replicate n 510 255 h)

-- the parts in the order in which they are put
parts-encoded : (k : ℕ) (algo : Algo) (digest : List ℕ)
    → (((0 ∷ 1 ∷ replicate (k - 3 - length (der_prefix algo ++ digest)) 255) ++ 0 ∷ []) ++ der_prefix algo) ++ digest ≡ encoded k algo digest
unfolding encoded
parts-encoded k algo digest = simp append_assoc

-- What is put into an array, part by part, is the encoded message.
pub put-encoded : (len at : ℕ) (algo : Algo) (digest prefix begun zeroed prefixed whole : List ℕ) → prefix ≡ der_prefix algo → 100 ≤ len → len ≤ 512
    → length digest ≤ 64 → len - length digest - length prefix ≡ at → begun ≡ 0 ∷ 1 ∷ replicate 510 255
    → take (at - 1 + 1) zeroed ≡ take (at - 1) begun ++ 0 ∷ [] → take (at + length prefix) prefixed ≡ take at zeroed ++ prefix
    → take (at + length prefix + length digest) whole ≡ take (at + length prefix) prefixed ++ digest → take len whole ≡ encoded len algo digest
put-encoded len at algo digest prefix begun zeroed prefixed whole e large small short place start zero second third =
    let p : length prefix ≤ 19 = rw e (prefix-short algo) in
    let long : length (prefix ++ digest) ≡ length prefix + length digest = length-append prefix digest in
    let all : len ≡ at + length prefix + length digest = omega arith in
    let one : at ≡ at - 1 + 1 = omega arith in
    let n : ℕ = len - 3 - length (prefix ++ digest) in
    let head : take (at - 1) begun ≡ 0 ∷ 1 ∷ replicate n 255 = padding n (at - 1) begun (omega (arith, long)) (omega (arith, long)) start in
    ap (λ (k : ℕ). take k whole) all ∙ third
    ∙ ap (λ (xs : List ℕ). xs ++ digest) (second ∙ ap (λ (xs : List ℕ). xs ++ prefix) (ap (λ (k : ℕ). take k zeroed) one ∙ zero ∙ ap (λ (xs : List ℕ). xs ++ 0 ∷ []) head))
    ∙ ap (λ (q : List ℕ). (((0 ∷ 1 ∷ replicate (len - 3 - length (q ++ digest)) 255) ++ 0 ∷ []) ++ q) ++ digest) e
    ∙ parts-encoded len algo digest
