use Rattle.std.proofs.Common.{◌≡◌, drop}
use Rattle.std.specs.List.{list_any}
use Rattle.uimg_fit_base.specs.AlgoSets.{has}
use Rattle.uimg_fit_checking.specs.Vouching.{has_from}
use Rattle.uimg_fit_checking.proofs.vouching.has_from.Given as goal

-- no algorithm before the index is in the set
abbrev pub invariant-loop-algo : goal.invariant-loop-algo
invariant-loop-algo l = list_any (has l.set) (drop l.algo-index l.algo-items) ≡ has_from l.set l.fn.need
