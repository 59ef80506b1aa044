use Rattle.std.proofs.Common.{rules, ◌≡◌, ◌<◌, ℕ, Option, None, IfSome, sym, subst}
use Rattle.uimg_blob_reading.specs.Roles.{in_images}
use Rattle.uimg_fit_checking.proofs.CountingLaws.{LeftCounted, none_counted, one_counted, all_counted, past_counted}
use Rattle.uimg_fit_checking.proofs.counting.count_from.Goals as goal

pub loop-count-init : goal.loop-count-init
loop-count-init g c = record {
  within = search rules;
  below = search rules;
  left = λ t h found from. none_counted t found _ from;
}

pub loop-count-preserved : goal.loop-count-preserved
loop-count-preserved g c = record {
  within = search rules;
  below = search rules;
  left = λ t h found from.
      one_counted t found c.loop-count.count c.in-Some.image _
      (subst (λ (o : Option ℕ). LeftCounted t found c.loop-count.count o) c.in-Some.is (c.loop-count.invariant.left t h found from))
      (c.next_of-next.ensures.next t h in_images);
}

pub returns-in_default : goal.returns-in_default
returns-in_default g c = λ t h found from.
    let is : c.loop-count.next ≡ None = search rules in
    all_counted t found c.loop-count.count (subst (λ (o : Option ℕ). LeftCounted t found c.loop-count.count o) is (c.loop-count.invariant.left t h found from))

pub returns : goal.returns
returns g c = λ t h found from.
    past_counted t found c.loop-count.count c.count-most.result c.loop-count.next (c.loop-count.invariant.left t h found from)
    c.loop-count.invariant.below (subst (λ (n : ℕ). IfSome c.loop-count.next (λ i. i < n)) (sym c.count-most.ensures) c.loop-count.invariant.within) (search rules)
