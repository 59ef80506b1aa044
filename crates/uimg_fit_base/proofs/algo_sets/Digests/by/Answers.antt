use Rattle.std.{proofs.Common.{◌∙◌, ap}, specs.List.slice_get}
use Rattle.uimg_fit_base.specs.AlgoSets.{chosen, set_of}
use Rattle.uimg_fit_base.proofs.AlgoSetLaws.{at-place, chosen-few}
use Rattle.uimg_fit_base.proofs.algo_sets.Digests.by.Goals as goal

pub returns : goal.returns
returns c = λ message all in_use.
    let set = set_of c.args.self.now in
    c.digest_at.ensures (chosen set) message all.are c.args.algo
    (ap (λ n. slice_get (chosen set) n) c.place.ensures ∙ at-place set c.args.algo in_use) (chosen-few set)
