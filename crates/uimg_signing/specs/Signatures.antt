-- The algorithm and the padding that a signature node names (U-Boot, doc/uImage.FIT/signature.rst).
use Rattle.std.specs.Prelude.{ℕ, List, [], ◌∷◌, ◌++◌, Option, Some, None, codes, nat_lt}
use Rattle.std.specs.Prelude.{if◌then◌else◌}
use Rattle.std.specs.Str.{bytes_eq}
use Rattle.uimg_texts.specs.Slices.{slice}
use Rattle.uimg_base.specs.declared.spans.Span.{Span}
use Rattle.uimg_sums.specs.declared.algo.Algo.{Algo, TheVariants.{Sha1, Sha256, Sha384, Sha512}}
use Rattle.uimg_signing.specs.declared.signature.RsaAlgo.{RsaAlgo}
use Rattle.uimg_signing.specs.declared.signature.RsaPadding.{RsaPadding, TheVariants.{Pkcs1, Pss}}

abbrev pub rsa : Algo → ℕ → Option RsaAlgo
rsa sum bits = Some (record { sum = sum; bits = bits })

-- the hash and the key size by the value of `algo`
unfoldable pub rsa_algo : List ℕ → Option RsaAlgo
rsa_algo value =
    if bytes_eq value (codes "sha1,rsa2048" ++ 0 ∷ []) then rsa Sha1 2048
    else if bytes_eq value (codes "sha1,rsa3072" ++ 0 ∷ []) then rsa Sha1 3072
    else if bytes_eq value (codes "sha1,rsa4096" ++ 0 ∷ []) then rsa Sha1 4096
    else if bytes_eq value (codes "sha256,rsa2048" ++ 0 ∷ []) then rsa Sha256 2048
    else if bytes_eq value (codes "sha256,rsa3072" ++ 0 ∷ []) then rsa Sha256 3072
    else if bytes_eq value (codes "sha256,rsa4096" ++ 0 ∷ []) then rsa Sha256 4096
    else if bytes_eq value (codes "sha384,rsa2048" ++ 0 ∷ []) then rsa Sha384 2048
    else if bytes_eq value (codes "sha384,rsa3072" ++ 0 ∷ []) then rsa Sha384 3072
    else if bytes_eq value (codes "sha384,rsa4096" ++ 0 ∷ []) then rsa Sha384 4096
    else if bytes_eq value (codes "sha512,rsa2048" ++ 0 ∷ []) then rsa Sha512 2048
    else if bytes_eq value (codes "sha512,rsa3072" ++ 0 ∷ []) then rsa Sha512 3072
    else if bytes_eq value (codes "sha512,rsa4096" ++ 0 ∷ []) then rsa Sha512 4096
    else None

-- the same of the value at a span
abbrev pub rsa_algo_at : List ℕ → Span → Option RsaAlgo
rsa_algo_at file s =
    if nat_lt 16 s.length then None else rsa_algo (slice file s.place s.length)

-- the padding by the value of `padding`
abbrev pub rsa_padding : List ℕ → Option RsaPadding
rsa_padding value =
    if bytes_eq value (codes "pkcs-1.5" ++ 0 ∷ []) then Some Pkcs1
    else if bytes_eq value (codes "pss" ++ 0 ∷ []) then Some Pss else None

-- the same of the value at a span; without the property it is that of PKCS #1
abbrev pub rsa_padding_at : List ℕ → Option Span → Option RsaPadding
rsa_padding_at file None = Some Pkcs1
rsa_padding_at file (Some s) =
    if nat_lt 16 s.length then None else rsa_padding (slice file s.place s.length)
