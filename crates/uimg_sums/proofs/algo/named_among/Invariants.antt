use Rattle.std.{proofs.Common.{◌≡◌, drop}, specs.{Prelude.find, Str.bytes_eq}}
use Rattle.uimg_sums.specs.Algorithms.{algo_name, named_among}
use Rattle.uimg_sums.proofs.algo.named_among.Given as goal

-- no algorithm before the index has the name
abbrev pub invariant-loop-algo : goal.invariant-loop-algo
invariant-loop-algo l = find (λ algo. bytes_eq l.name (algo_name algo)) (drop l.algo-index l.among) ≡ named_among l.among l.name
