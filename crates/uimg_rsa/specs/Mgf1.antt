-- MGF1 (RFC 8017, appendix B.2.1).
use Rattle.std.specs.Prelude.{ℕ, zero, suc, List, [], ◌++◌, take}
use Rattle.std.specs.Int.{to_be_bytes, div_ceil, w32}
use Rattle.uimg_sums.specs.{Algorithms.{digest_by, digest_size}, declared.algo.Algo.Algo}

-- T: the hashes of the seed and each counter below n, one after another (step 3)
unfoldable pub hashes : Algo → List ℕ → ℕ → List ℕ
hashes algo seed zero = []
hashes algo seed (suc n) = hashes algo seed n ++ digest_by algo (seed ++ to_be_bytes w32 n)

-- the mask of a seed: the first octets of T
unfoldable pub mgf1 : Algo → List ℕ → ℕ → List ℕ
mgf1 algo seed len = take len (hashes algo seed (div_ceil len (digest_size algo)))
