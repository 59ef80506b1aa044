use Rattle.std.proofs.Common.{arith}
use Rattle.uimg_sums.proofs.BundleLaws.{padded_digests-each}
use Rattle.uimg_sums.proofs.bundle.Bundle.finish.Goals as goal

pub returns : goal.returns
returns c = λ algos fed held.
    padded_digests-each c.args.self.sums algos fed c.map.result held.order (omega (arith, c.map.ensures.items.long))
    (λ i d e h. let called = c.map.ensures.items.at i d e (omega arith) in called.2.met fed (held.each i d h))
