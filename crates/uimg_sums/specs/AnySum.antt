-- A sum with any of the algorithms.
use Rattle.std.specs.Prelude.{◌≡◌, ◌<◌, ◌-◌, ℕ, List, ◌++◌, length, replicate}
use Rattle.std.specs.List.{AllByRecursion}
use Rattle.md5.specs.Md5 as md5
use Rattle.sha1.specs.Sha1 as sha1
use Rattle.sha2.specs.Hashers.{Holds256, Holds384, Holds512}
use Rattle.uimg_sums.specs.{CrcSteps.register_of, Crc16.remainder_of}
use Rattle.uimg_sums.specs.declared.{algo.Algo.Algo, any_sum.AnySum.AnySum}
use Rattle.uimg_sums.specs.declared.any_sum.AnySum.TheVariants.{Crc16, Crc32, Md5, Sha1, Sha256}
use Rattle.uimg_sums.specs.declared.any_sum.AnySum.TheVariants.{Sha384, Sha512}
use Rattle.uimg_sums.specs.declared.algo.Algo.TheVariants as algos

-- the algorithm of a sum
abbrev pub algo_of : AnySum → Algo
algo_of (Crc16 sum) = algos.Crc16
algo_of (Crc32 sum) = algos.Crc32
algo_of (Md5 sum) = algos.Md5
algo_of (Sha1 sum) = algos.Sha1
algo_of (Sha256 sum) = algos.Sha256
algo_of (Sha384 sum) = algos.Sha384
algo_of (Sha512 sum) = algos.Sha512

-- These bytes may have been fed to the sum.
abbrev pub SumHolds : AnySum → List ℕ → Type 0
SumHolds (Crc16 sum) fed = sum.remainder ≡ remainder_of fed
SumHolds (Crc32 sum) fed = (sum.register ≡ register_of fed) × AllByRecursion (λ b. b < 256) fed
SumHolds (Md5 sum) fed = md5.Holds sum.hasher fed
SumHolds (Sha1 sum) fed = sha1.Holds sum.hasher fed
SumHolds (Sha256 sum) fed = Holds256 sum.hasher fed
SumHolds (Sha384 sum) fed = Holds384 sum.hasher fed
SumHolds (Sha512 sum) fed = Holds512 sum.hasher fed

-- a digest, padded with zeros to 64 bytes, and its length
abbrev pub padded_digest : List ℕ → List ℕ × ℕ
padded_digest digest = (digest ++ replicate (64 - length digest) 0, length digest)
