use Rattle.std.proofs.{Common.{List, [], sym, subst, arith}, lemmas.List.Elements.filter_more}
use Rattle.uimg_sums.specs.{declared.algo.Algo.Algo, Algorithms.all_algos, Bundle.Holds}
use Rattle.uimg_fit_base.specs.AlgoSets.{has}
use Rattle.uimg_fit_base.proofs.AlgoSetLaws.{first-few}
use Rattle.uimg_fit_base.proofs.algo_sets.AlgoSet.sums.Goals as goal

pub loop-algo-preserved : goal.loop-algo-preserved
loop-algo-preserved c =
    subst (λ (algos : List Algo). Holds c.add_chosen.new.bundle algos []) (sym (filter_more (has c.args.self) all_algos c.loop-algo.algo-index _ (omega arith)))
    (c.add_chosen.ensures _ c.loop-algo.invariant (first-few c.args.self c.loop-algo.algo-index))
