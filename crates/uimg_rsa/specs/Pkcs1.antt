-- RSASSA-PKCS1-v1_5 (RFC 8017, sections 8.2.2 and 9.2).
use Rattle.std.specs.Prelude.{◌≡◌, ◌-◌, ℕ, List, [], ◌∷◌, ◌++◌, length, replicate, bytes_eq, Result, ⊤}
use Rattle.uimg_sums.specs.declared.algo.Algo.{Algo}
use Rattle.uimg_sums.specs.declared.algo.Algo.TheVariants.{Crc16, Crc32, Md5}
use Rattle.uimg_sums.specs.declared.algo.Algo.TheVariants.{Sha1, Sha256, Sha384, Sha512}
use Rattle.uimg_rsa.specs.{Rsavp1.power_octets, Opening.{opened, judged, Opens}}
use Rattle.uimg_rsa.specs.declared.refusal.Refusal.{Refusal}

-- what precedes the digest in the DER encoding of a DigestInfo (section 9.2, note 1)
unfoldable pub der_prefix : Algo → List ℕ
der_prefix Crc16 = []
der_prefix Crc32 = []
der_prefix Md5 = []
der_prefix Sha1 =
    0x30 ∷ 0x21 ∷ 0x30 ∷ 0x09 ∷ 0x06 ∷ 0x05 ∷ 0x2B ∷ 0x0E ∷ 0x03 ∷ 0x02 ∷ 0x1A ∷ 0x05 ∷ 0x00
    ∷ 0x04 ∷ 0x14 ∷ []
der_prefix Sha256 =
    0x30 ∷ 0x31 ∷ 0x30 ∷ 0x0D ∷ 0x06 ∷ 0x09 ∷ 0x60 ∷ 0x86 ∷ 0x48 ∷ 0x01 ∷ 0x65 ∷ 0x03 ∷ 0x04
    ∷ 0x02 ∷ 0x01 ∷ 0x05 ∷ 0x00 ∷ 0x04 ∷ 0x20 ∷ []
der_prefix Sha384 =
    0x30 ∷ 0x41 ∷ 0x30 ∷ 0x0D ∷ 0x06 ∷ 0x09 ∷ 0x60 ∷ 0x86 ∷ 0x48 ∷ 0x01 ∷ 0x65 ∷ 0x03 ∷ 0x04
    ∷ 0x02 ∷ 0x02 ∷ 0x05 ∷ 0x00 ∷ 0x04 ∷ 0x30 ∷ []
der_prefix Sha512 =
    0x30 ∷ 0x51 ∷ 0x30 ∷ 0x0D ∷ 0x06 ∷ 0x09 ∷ 0x60 ∷ 0x86 ∷ 0x48 ∷ 0x01 ∷ 0x65 ∷ 0x03 ∷ 0x04
    ∷ 0x02 ∷ 0x03 ∷ 0x05 ∷ 0x00 ∷ 0x04 ∷ 0x40 ∷ []

-- EMSA-PKCS1-v1_5: the encoded message of k octets for a digest (section 9.2)
unfoldable pub encoded : ℕ → Algo → List ℕ → List ℕ
encoded k algo digest =
    let info = der_prefix algo ++ digest in
    0 ∷ 1 ∷ replicate (k - 3 - length info) 255 ++ 0 ∷ info

-- RSASSA-PKCS1-V1_5-VERIFY: the first refusal, or none
unfoldable pub pkcs1_verdict : List ℕ → ℕ → List ℕ → Algo → List ℕ → Result ⊤ Refusal
pkcs1_verdict modulus exponent signature algo digest =
    judged (λ em. bytes_eq em (encoded (length modulus) algo digest))
    (opened modulus exponent signature algo digest)

-- A signature is valid (section 8.2.2).
pub record VerifiesPkcs1 (modulus : List ℕ) (exponent : ℕ) (signature : List ℕ) (algo : Algo) (digest : List ℕ) : Type 0 where
  pub opens : Opens modulus exponent signature algo digest
  pub message : power_octets modulus exponent signature ≡ encoded (length modulus) algo digest
