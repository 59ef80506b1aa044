-- Sets of algorithms, and the digests by them.
use Rattle.std.specs.{Prelude.{◌≡◌, ◌^◌, ◌==◌, ℕ, List, Bool, bit_or}, Int.bit_at, List.filter}
use Rattle.uimg_sums.specs.{Algorithms.{all_algos, number}, declared.algo.Algo.Algo}
use Rattle.uimg_sums.specs.Bundle.{padded_digests}
use Rattle.uimg_fit_base.specs.declared.algo_sets.{AlgoSet.AlgoSet, Digests.Digests}

-- whether an algorithm is in a set: the bit of its number is 1
unfoldable pub has : AlgoSet → Algo → Bool
has set algo = bit_at set.bits (number algo) == 1

-- a set with one more algorithm
unfoldable pub marked : AlgoSet → Algo → AlgoSet
marked set algo = record { bits = bit_or set.bits (2 ^ number algo) }

-- the empty set
abbrev pub no_algos : AlgoSet
no_algos = record { bits = 0 }

-- whether a set is empty
unfoldable pub is_empty : AlgoSet → Bool
is_empty set = set.bits == 0

-- the algorithms of a set, in order
abbrev pub chosen : AlgoSet → List Algo
chosen set = filter (has set) all_algos

-- the set of some digests
abbrev pub set_of : Digests → AlgoSet
set_of d = d.set

-- The digests are those of a message, by the algorithms of their set.
pub record AreDigests (d : Digests) (message : List ℕ) : Type 0 where
  pub are : d.digests ≡ padded_digests (chosen d.set) message
