-- The steps that both schemes begin and end with (RFC 8017, sections 8.1.2 and 8.2.2).
use Rattle.std.specs.Prelude.{◌≡◌, ◌<◌, ℕ, ◌%◌, List, length, take, slice_index, Bool, true, false, not}
use Rattle.std.specs.Prelude.{◌&&◌, ◌||◌, nat_le, ◌==◌, if◌then◌else◌, IsTrue, Result, Ok, Err, ⊤}
use Rattle.uimg_sums.specs.{Algorithms.digest_size, declared.algo.Algo.Algo}
use Rattle.uimg_sums.specs.declared.algo.Algo.TheVariants.{Crc16, Crc32, Md5}
use Rattle.uimg_sums.specs.declared.algo.Algo.TheVariants.{Sha1, Sha256, Sha384, Sha512}
use Rattle.uimg_rsa.specs.{Octets.os2ip, Rsavp1.rsavp1, declared.refusal.Refusal.Refusal}
use Rattle.uimg_rsa.specs.declared.refusal.Refusal.TheVariants.{Algorithm, DigestLength}
use Rattle.uimg_rsa.specs.declared.refusal.Refusal.TheVariants.{KeySize, Exponent, SignatureLength}
use Rattle.uimg_rsa.specs.declared.refusal.Refusal.TheVariants.{Mismatch}

-- whether an algorithm is SHA-1, SHA-256, SHA-384 or SHA-512 (section 9.2, note 1)
abbrev pub is_sha : Algo → Bool
is_sha Crc16 = false
is_sha Crc32 = false
is_sha Md5 = false
is_sha Sha1 = true
is_sha Sha256 = true
is_sha Sha384 = true
is_sha Sha512 = true

-- whether a modulus has exactly 2048, 3072 or 4096 bits: the first bit of its octets is 1
unfoldable pub is_modulus : List ℕ → Bool
is_modulus modulus =
    if length modulus == 256 || length modulus == 384 || length modulus == 512
    then nat_le 128 (slice_index modulus 0) else false

-- whether a public exponent is odd and at least 3 (section 3.1)
abbrev pub is_exponent : ℕ → Bool
is_exponent exponent = nat_le 3 exponent && exponent % 2 == 1

-- the encoded message that a signature opens to, or the first refusal
unfoldable pub opened : List ℕ → ℕ → List ℕ → Algo → List ℕ → Result (List ℕ) Refusal
opened modulus exponent signature algo digest =
    if not (is_sha algo) then Err Algorithm
    else if not (length digest == digest_size algo) then Err DigestLength
    else if not (is_modulus modulus) then Err KeySize
    else if not (is_exponent exponent) then Err Exponent
    else if not (length signature == length modulus) then Err SignatureLength
    else rsavp1 modulus exponent signature

-- The encoded message must be consistent with the digest.
abbrev pub judged : (List ℕ → Bool) → Result (List ℕ) Refusal → Result ⊤ Refusal
judged is_right (Ok em) = if is_right em then Ok tt else Err Mismatch
judged is_right (Err refusal) = Err refusal

-- The digest and the key are accepted, and the signature representative is in range (section 5.2.2).
pub record Opens (modulus : List ℕ) (exponent : ℕ) (signature : List ℕ) (algo : Algo) (digest : List ℕ) : Type 0 where
  pub algorithm : IsTrue (is_sha algo)
  pub digest_length : length digest ≡ digest_size algo
  pub key_size : IsTrue (is_modulus modulus)
  pub public_exponent : IsTrue (is_exponent exponent)
  pub signature_length : length signature ≡ length modulus
  pub representative : os2ip signature < os2ip modulus

-- the first octets of an array that is returned
abbrev pub first_octets : ℕ → Result (List ℕ) Refusal → Result (List ℕ) Refusal
first_octets n (Ok octets) = Ok (take n octets)
first_octets n (Err refusal) = Err refusal
