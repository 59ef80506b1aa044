-- The checksum and hash algorithms: order, names, digest lengths, and digests.
use Rattle.std.specs.{Prelude.{ℕ, List, [], ◌∷◌, Option, codes, find}, Int.{to_be_bytes, w16, w32}}
use Rattle.std.specs.Str.{bytes_eq}
use Rattle.md5.specs.Md5.{md5}
use Rattle.sha1.specs.Sha1.{sha1}
use Rattle.sha2.specs.{Sha256.sha256, Sha512.{sha384, sha512}}
use Rattle.uimg_sums.specs.{Crc.crc, Crc16.crc16, declared.algo.Algo.Algo}
use Rattle.uimg_sums.specs.declared.algo.Algo.TheVariants as algos
use Rattle.uimg_sums.specs.declared.algo.Algo.TheVariants.{Crc32, Md5, Sha1, Sha256, Sha384, Sha512}

-- an algorithm's number, name, digest length in bytes, and the digest of a message
pub record AlgoRow : Type 0 where
  pub number : ℕ
  pub name : List ℕ
  pub size : ℕ
  pub digest : List ℕ → List ℕ

abbrev algo_row : ℕ → List ℕ → ℕ → (List ℕ → List ℕ) → AlgoRow
algo_row number name size digest =
    record { number = number; name = name; size = size; digest = digest }

-- the algorithms of the profile, from the weakest to the strongest
abbrev pub profile_algos : List Algo
profile_algos = Crc32 ∷ Md5 ∷ Sha1 ∷ Sha256 ∷ Sha384 ∷ Sha512 ∷ []

-- all algorithms of the tools of U-Boot 2023.01, from the weakest to the strongest
abbrev pub all_algos : List Algo
all_algos = algos.Crc16 ∷ profile_algos

-- The names are those in the hash nodes of a FIT image and in U-Boot's hash.c. The digest of a CRC
-- is the number in two or four bytes, big-endian (RFC 1321; FIPS 180-4, sections 6.1, 6.2, 6.4 and
-- 6.5).
abbrev pub row_of : Algo → AlgoRow
row_of algos.Crc16 =
    algo_row 0 (codes "crc16-ccitt") 2 (λ message. to_be_bytes w16 (crc16 message))
row_of Crc32 = algo_row 1 (codes "crc32") 4 (λ message. to_be_bytes w32 (crc message))
row_of Md5 = algo_row 2 (codes "md5") 16 md5
row_of Sha1 = algo_row 3 (codes "sha1") 20 sha1
row_of Sha256 = algo_row 4 (codes "sha256") 32 sha256
row_of Sha384 = algo_row 5 (codes "sha384") 48 sha384
row_of Sha512 = algo_row 6 (codes "sha512") 64 sha512

-- the number of an algorithm in their order, from 0
abbrev pub number : Algo → ℕ
number algo = (row_of algo).number

abbrev pub algo_name : Algo → List ℕ
algo_name algo = (row_of algo).name

-- the first of these algorithms that has a name
abbrev pub named_among : List Algo → List ℕ → Option Algo
named_among among name = find (λ algo. bytes_eq name (algo_name algo)) among

-- the algorithm of the profile that has a name
abbrev pub algo_named : List ℕ → Option Algo
algo_named name = named_among profile_algos name

-- the length of a digest in bytes (RFC 1321, section 3.5; FIPS 180-4, section 1, figure 1)
abbrev pub digest_size : Algo → ℕ
digest_size algo = (row_of algo).size

-- the digest of a message
abbrev pub digest_by : Algo → List ℕ → List ℕ
digest_by algo message = (row_of algo).digest message
