use Rattle.std.{proofs.Common.{◌≡◌, take}, specs.List.count_by}
use Rattle.uimg_fit_base.specs.AlgoSets.{has}
use Rattle.uimg_fit_base.proofs.algo_sets.place.Given as goal

-- those in use so far
abbrev pub invariant-loop-known : goal.invariant-loop-known
invariant-loop-known l = l.place ≡ count_by (has l.set) (take l.known-index l.known-items)
