-- Which images their hash nodes vouch for.
use Rattle.std.specs.Prelude.{List, Bool, drop}
use Rattle.std.specs.List.{list_any}
use Rattle.uimg_sums.specs.Algorithms.{all_algos, number}
use Rattle.uimg_sums.specs.declared.algo.Algo.{Algo}
use Rattle.uimg_texts.specs.declared.naming.Naming.TheVariants as naming
use Rattle.uimg_blob_reading.specs.LookUps.{NodeOf, hashes}
use Rattle.uimg_blob_reading.specs.Spots.{Spot}
use Rattle.uimg_fit_base.specs.declared.algo_sets.AlgoSet.{AlgoSet}
use Rattle.uimg_fit_base.specs.AlgoSets.{has, no_algos}
use Rattle.uimg_fit_reading.specs.Plans.{with_all}

-- the algorithms that are at least as strong as this one
abbrev pub from : Algo → List Algo
from algo = drop (number algo) all_algos

-- a set has one of them
abbrev pub has_from : AlgoSet → Algo → Bool
has_from set need = list_any (has set) (from need)

-- A hash node of an image is compared by an algorithm at least as strong as the needed one.
abbrev pub is_vouched : Algo → NodeOf Spot → Bool
is_vouched need image = has_from (with_all naming.All no_algos (hashes image)) need
