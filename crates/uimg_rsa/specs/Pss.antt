-- RSASSA-PSS (RFC 8017, sections 8.1.2 and 9.1.2), for keys whose modulus fills its octets, and
-- salts of any length, as in U-Boot's padding_pss_verify.
use Rattle.std.specs.Prelude.{◌-◌, ◌%◌, ℕ, zero, suc, List, [], ◌∷◌, ◌++◌, length, take, drop, replicate}
use Rattle.std.specs.Prelude.{slice_index, bit_xor, bytes_eq, nat_lt, Bool, false, ◌==◌, if◌then◌else◌, not, IsTrue}
use Rattle.std.specs.Prelude.{Option, Some, None, Result, ⊤}
use Rattle.uimg_sums.specs.{Algorithms.{digest_by, digest_size}, declared.algo.Algo.Algo}
use Rattle.uimg_rsa.specs.{Rsavp1.power_octets, Opening.{opened, judged, Opens}, Mgf1.mgf1}
use Rattle.uimg_rsa.specs.declared.refusal.Refusal.{Refusal}

unfoldable pub xor_octets : List ℕ → List ℕ → List ℕ
xor_octets [] ys = []
xor_octets (x ∷ xs) [] = []
xor_octets (x ∷ xs) (y ∷ ys) = bit_xor x y ∷ xor_octets xs ys

-- the octets with their first bit cleared
unfoldable pub without_first_bit : List ℕ → List ℕ
without_first_bit [] = []
without_first_bit (x ∷ xs) = x % 128 ∷ xs

-- the length of maskedDB, the first part of an encoded message (section 9.1.2, step 5)
abbrev pub db_length : Algo → List ℕ → ℕ
db_length algo em = length em - digest_size algo - 1

-- H, the part after it (step 5)
abbrev pub hash_part : Algo → List ℕ → List ℕ
hash_part algo em = take (digest_size algo) (drop (db_length algo em) em)

-- DB: maskedDB, unmasked, its first bit cleared (steps 5 and 7 to 9)
unfoldable pub data_block : Algo → List ℕ → List ℕ
data_block algo em =
    let len = db_length algo em in
    without_first_bit (xor_octets (take len em) (mgf1 algo (hash_part algo em) len))

-- the salt: what follows zeros and a one (steps 10 and 11)
unfoldable pub salt_of : List ℕ → Option (List ℕ)
salt_of [] = None
salt_of (zero ∷ xs) = salt_of xs
salt_of (suc zero ∷ xs) = Some xs
salt_of (suc (suc x) ∷ xs) = None

-- whether H is the hash of M': eight zeros, the digest and the salt (steps 12 to 14)
abbrev pub is_hash : Algo → List ℕ → List ℕ → Option (List ℕ) → Bool
is_hash algo hash digest None = false
is_hash algo hash digest (Some salt) =
    bytes_eq (digest_by algo ((replicate 8 0 ++ digest) ++ salt)) hash

-- EMSA-PSS-VERIFY: whether an encoded message is consistent with a digest (section 9.1.2; steps 4
-- and 6 are the trailer and the first bit)
unfoldable pub is_consistent : Algo → List ℕ → List ℕ → Bool
is_consistent algo digest em =
    if not (slice_index em (length em - 1) == 0xBC) then false
    else if not (nat_lt (slice_index em 0) 128) then false
    else is_hash algo (hash_part algo em) digest (salt_of (data_block algo em))

-- RSASSA-PSS-VERIFY: the first refusal, or none
unfoldable pub pss_verdict : List ℕ → ℕ → List ℕ → Algo → List ℕ → Result ⊤ Refusal
pss_verdict modulus exponent signature algo digest =
    judged (is_consistent algo digest) (opened modulus exponent signature algo digest)

-- A signature is valid (section 8.1.2).
pub record VerifiesPss (modulus : List ℕ) (exponent : ℕ) (signature : List ℕ) (algo : Algo) (digest : List ℕ) : Type 0 where
  pub opens : Opens modulus exponent signature algo digest
  pub message : IsTrue (is_consistent algo digest (power_octets modulus exponent signature))
