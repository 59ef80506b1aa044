-- A public key in PEM (RFC 7468, sections 3 and 13; RFC 8017 for the second).
use Rattle.std.specs.Prelude.{◌≡◌, ℕ, ◌==◌, List, ◌++◌, codes, Bool, not, ◌||◌}
use Rattle.std.specs.List.{filter}
use Rattle.base64.specs.{Engines.standard, GeneralPurpose.encode_of}
use Rattle.uimg_keys.specs.Der.{rsa_public_key, subject_public_key_info}
use Rattle.uimg_keys.specs.declared.pem.Form.{Form, TheVariants.{Any, Rsa}}

-- a byte of a line
abbrev pub is_in_line : ℕ → Bool
is_in_line byte = not (byte == 10 || byte == 13)

-- the bytes of a text's lines
abbrev pub flat : List ℕ → List ℕ
flat text = filter is_in_line text

abbrev pub begin_of : Form → List ℕ
begin_of Any = codes "-----BEGIN PUBLIC KEY-----"
begin_of Rsa = codes "-----BEGIN RSA PUBLIC KEY-----"

abbrev pub end_of : Form → List ℕ
end_of Any = codes "-----END PUBLIC KEY-----"
end_of Rsa = codes "-----END RSA PUBLIC KEY-----"

abbrev pub der_of : Form → List ℕ → ℕ → List ℕ
der_of Any = subject_public_key_info
der_of Rsa = rsa_public_key

-- the lines of a key's text, joined
abbrev pub pem_of : Form → List ℕ → ℕ → List ℕ
pem_of form modulus exponent =
    begin_of form ++ encode_of standard (der_of form modulus exponent) ++ end_of form

-- A text has this key. Where its lines end does not count.
abbrev pub IsPem : List ℕ → List ℕ → ℕ → Type 0
IsPem text modulus exponent = (form : Form) × (flat text ≡ pem_of form modulus exponent)
