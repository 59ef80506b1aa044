use Rattle.uimg_sums.proofs.BundleLaws.{Holds-added}
use Rattle.uimg_sums.proofs.bundle.Bundle.add.Goals as goal

pub returns-clause-added : goal.returns-clause-added
returns-clause-added c = λ algos held few. Holds-added c.args.self.now algos c.args.algo c.start.result held few c.start.ensures.algo c.start.ensures.fed
