use Rattle.std.{proofs.Common.{[], take}, specs.List.filter}
use Rattle.uimg_sums.specs.{Algorithms.all_algos, Bundle.Holds}
use Rattle.uimg_fit_base.specs.AlgoSets.{has}
use Rattle.uimg_fit_base.proofs.algo_sets.AlgoSet.sums.Given as goal

-- the sums of the first algorithms
abbrev pub invariant-loop-algo : goal.invariant-loop-algo
invariant-loop-algo l = Holds l.bundle (filter (has l.self) (take l.algo-index all_algos)) []
