use Rattle.std.proofs.Common.{◌≡◌, ◌∙◌, ◌+◌, ◌<◌, ℕ, List, length, drop, get_or, Option, Some, Bool, true, false, cond, refl, sym, arith}
use Rattle.std.specs.List.{filter, last_or}
use Rattle.std.proofs.lemmas.List.{drop_more}
use Rattle.uimg_sums.specs.Algorithms.{all_algos}
use Rattle.uimg_sums.specs.declared.algo.Algo.{Algo}
use Rattle.uimg_fit_base.specs.AlgoSets.{has}
use Rattle.uimg_fit_checking.proofs.unpacking.refusals.strongest.Goals.{then-has, else-has}
use Rattle.uimg_fit_checking.proofs.unpacking.refusals.strongest.Goals as goal

-- one more algorithm, whether it is in the set or not
last-more : (f : Algo → Bool) (xs : List Algo) (i : ℕ) (d : Algo) (found new : Option Algo) (b : Bool) → i < length xs → f (get_or xs i d) ≡ b → new ≡ cond b (Some (get_or xs i d)) found
    → last_or new (filter f (drop (i + 1) xs)) ≡ last_or found (filter f (drop i xs))
last-more f xs i d found new true within is same = rw (drop_more xs i d within) (rw is (rw same refl))
last-more f xs i d found new false within is same = rw (drop_more xs i d within) (rw is (rw same refl))

pub loop-algo-preserved : goal.loop-algo-preserved
loop-algo-preserved c = elim c.if-has.branch [
  | then-has w ↦ last-more (has c.args.set) all_algos c.loop-algo.algo-index _ c.loop-algo.strongest _ true (omega arith) (sym c.has.ensures ∙ w.if-has.true) w.strongest-is ∙ c.loop-algo.invariant
  | else-has w ↦ last-more (has c.args.set) all_algos c.loop-algo.algo-index _ c.loop-algo.strongest _ false (omega arith) (sym c.has.ensures ∙ w.if-has.false) w.strongest-is ∙ c.loop-algo.invariant
]
