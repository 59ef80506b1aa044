use Rattle.std.{proofs.Common.{◌≡◌, drop}, specs.Prelude.{◌==◌, find}}
use Rattle.uimg_sums.specs.Algorithms.{profile_algos, number}
use Rattle.uimg_c.specs.Codes.{strength}
use Rattle.uimg_c.proofs.checks.strength.Given as goal

-- no algorithm before the index has the strength
abbrev pub invariant-loop-algo : goal.invariant-loop-algo
invariant-loop-algo l = find (λ algo. l.need == number algo) (drop l.algo-index profile_algos) ≡ strength l.need
