-- A public key of RSA in DER (X.690, section 10; RFC 8017, appendix A.1; RFC 5280, section 4.1.2.7).
use Rattle.std.specs.Prelude.{ℕ, ◌/◌, ◌%◌, List, [], ◌∷◌, ◌++◌, length, nat_lt, if◌then◌else◌, slice_index, suc, zero}
use Rattle.std.specs.Int.{w64, to_be_bytes}

-- the octets of a length below 65536 (X.690, section 8.1.3)
abbrev pub length_octets : ℕ → List ℕ
length_octets n =
    if nat_lt n 128 then n ∷ [] else
    if nat_lt n 256 then 0x81 ∷ n ∷ [] else 0x82 ∷ n / 256 ∷ n % 256 ∷ []

-- an element: its tag, the length of its content, and the content
abbrev pub element : ℕ → List ℕ → List ℕ
element tag content = tag ∷ length_octets (length content) ++ content

-- the content of an INTEGER that is not negative: a zero goes before a highest bit (section 8.3)
abbrev pub unsigned : List ℕ → List ℕ
unsigned octets = if nat_lt 127 (slice_index octets 0) then 0 ∷ octets else octets

abbrev pub integer : List ℕ → List ℕ
integer octets = element 2 (unsigned octets)

-- octets without the zeros before them
abbrev pub significant : List ℕ → List ℕ
significant [] = []
significant (zero ∷ octets) = significant octets
significant (suc n ∷ octets) = suc n ∷ octets

-- RSAPublicKey (RFC 8017, appendix A.1.1)
abbrev pub rsa_public_key : List ℕ → ℕ → List ℕ
rsa_public_key modulus exponent =
    element 0x30 (integer modulus ++ integer (significant (to_be_bytes w64 exponent)))

-- AlgorithmIdentifier of rsaEncryption, with the parameters NULL (RFC 8017, appendix A.1)
abbrev pub rsa_encryption : List ℕ
rsa_encryption =
    0x30 ∷ 0x0d ∷ 0x06 ∷ 0x09 ∷ 0x2a ∷ 0x86 ∷ 0x48 ∷ 0x86 ∷ 0xf7 ∷ 0x0d ∷ 0x01 ∷ 0x01 ∷ 0x01
    ∷ 0x05 ∷ 0x00 ∷ []

-- SubjectPublicKeyInfo (RFC 5280, section 4.1.2.7)
abbrev pub subject_public_key_info : List ℕ → ℕ → List ℕ
subject_public_key_info modulus exponent =
    element 0x30 (rsa_encryption ++ element 3 (0 ∷ rsa_public_key modulus exponent))
