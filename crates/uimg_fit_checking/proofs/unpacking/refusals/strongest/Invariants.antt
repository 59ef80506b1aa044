use Rattle.std.proofs.Common.{◌≡◌, drop}
use Rattle.std.specs.List.{filter, last_or}
use Rattle.uimg_sums.specs.Algorithms.{all_algos}
use Rattle.uimg_fit_base.specs.AlgoSets.{has}
use Rattle.uimg_fit_checking.specs.Unpacking.{strongest}
use Rattle.uimg_fit_checking.proofs.unpacking.refusals.strongest.Given as goal

-- the last so far, and then those of what is left
abbrev pub invariant-loop-algo : goal.invariant-loop-algo
invariant-loop-algo l = last_or l.strongest (filter (has l.set) (drop l.algo-index all_algos)) ≡ strongest l.set
