-- Worked cases, so that a wrong rule in a definition does not check.
use Rattle.std.proofs.Common.{◌≡◌, List, [], ◌∷◌, replicate, true, false, Some, None, Ok, Err, refl}
use Rattle.std.specs.Prelude.{ℕ}
use Rattle.uimg_sums.specs.declared.algo.Algo.TheVariants.{Md5, Sha1}
use Rattle.uimg_rsa.specs.declared.refusal.Refusal.TheVariants.{Algorithm, DigestLength, KeySize, Exponent}
use Rattle.uimg_rsa.specs.declared.refusal.Refusal.TheVariants.{SignatureLength, OutOfRange, Mismatch}
use Rattle.uimg_rsa.specs.{Octets.{os2ip, i2osp}, Rsavp1.{power_octets, rsavp1}}
use Rattle.uimg_rsa.specs.Opening.{is_modulus, is_exponent, opened}
use Rattle.uimg_rsa.specs.{Pkcs1.{der_prefix, encoded, pkcs1_verdict}, Pss.{xor_octets, without_first_bit, salt_of}}

pub octets_of_258 : (os2ip (1 ∷ 2 ∷ []) ≡ 258) × (i2osp 2 258 ≡ 1 ∷ 2 ∷ []) × (i2osp 3 258 ≡ 0 ∷ 1 ∷ 2 ∷ [])
unfolding os2ip i2osp
octets_of_258 = (refl, refl, refl)

-- the modulus 61 * 53 and the exponent 17: 65 to 2790
pub powers : (power_octets (0x0C ∷ 0xA1 ∷ []) 17 (0 ∷ 65 ∷ []) ≡ 0x0A ∷ 0xE6 ∷ []) × (rsavp1 (0x0C ∷ 0xA1 ∷ []) 17 (0x0C ∷ 0xA0 ∷ []) ≡ Ok (0x0C ∷ 0xA0 ∷ [])) × (rsavp1 (0x0C ∷ 0xA1 ∷ []) 17 (0x0C ∷ 0xA1 ∷ []) ≡ Err OutOfRange)
unfolding os2ip i2osp rsavp1
powers = (refl, refl, refl)

pub moduli : (is_modulus (128 ∷ replicate 255 0) ≡ true) × (is_modulus (127 ∷ replicate 255 0) ≡ false) × (is_modulus (128 ∷ replicate 379 0) ≡ false)
unfolding is_modulus
moduli = (refl, refl, refl)

pub exponents : (is_exponent 3 ≡ true) × (is_exponent 65537 ≡ true) × (is_exponent 1 ≡ false) × (is_exponent 65536 ≡ false)
exponents = (refl, refl, refl, refl)

-- an encoded message of 28 octets, for a digest of two
pub encoded_28 : encoded 28 Sha1 (7 ∷ 8 ∷ []) ≡ 0 ∷ 1 ∷ 255 ∷ 255 ∷ 255 ∷ 255 ∷ 255 ∷ 255 ∷ 255 ∷ 255 ∷ 0 ∷ 0x30 ∷ 0x21 ∷ 0x30 ∷ 0x09 ∷ 0x06 ∷ 0x05 ∷ 0x2B ∷ 0x0E ∷ 0x03 ∷ 0x02 ∷ 0x1A ∷ 0x05 ∷ 0x00 ∷ 0x04 ∷ 0x14 ∷ 7 ∷ 8 ∷ []
unfolding encoded der_prefix
encoded_28 = refl

pub unmasked_octets : without_first_bit (xor_octets (0xF0 ∷ 0x0F ∷ []) (0x3C ∷ 0xFF ∷ [])) ≡ 0x4C ∷ 0xF0 ∷ []
unfolding without_first_bit xor_octets
unmasked_octets = refl

pub salts : (salt_of (0 ∷ 0 ∷ 1 ∷ 7 ∷ 8 ∷ []) ≡ Some (7 ∷ 8 ∷ [])) × (salt_of (1 ∷ []) ≡ Some []) × (salt_of (0 ∷ 2 ∷ 1 ∷ []) ≡ None) × (salt_of (0 ∷ 0 ∷ []) ≡ None)
unfolding salt_of
salts = (refl, refl, refl, refl)

abbrev modulus : List ℕ
modulus = 255 ∷ replicate 255 0

abbrev digest : List ℕ
digest = replicate 20 0

-- each refusal where all later ones apply too
pub first_refusals : (pkcs1_verdict [] 1 [] Md5 [] ≡ Err Algorithm) × (pkcs1_verdict [] 1 [] Sha1 [] ≡ Err DigestLength) × (pkcs1_verdict [] 1 (9 ∷ []) Sha1 digest ≡ Err KeySize) × (pkcs1_verdict modulus 1 [] Sha1 digest ≡ Err Exponent) × (pkcs1_verdict modulus 3 [] Sha1 digest ≡ Err SignatureLength) × (pkcs1_verdict modulus 3 (replicate 256 255) Sha1 digest ≡ Err OutOfRange) × (pkcs1_verdict modulus 3 (replicate 256 0) Sha1 digest ≡ Err Mismatch)
unfolding pkcs1_verdict opened is_modulus rsavp1 os2ip i2osp encoded der_prefix
first_refusals = (refl, refl, refl, refl, refl, refl, refl)
