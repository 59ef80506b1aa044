use Rattle.std.proofs.Common.{rules, ◌≡◌, ℕ, Option, Some, subst, arith}
use Rattle.uimg_fit_reading.proofs.ImageLaws.{LeftImages, next_left, image_next, none_next}
use Rattle.uimg_fit_reading.proofs.images.image_at.Goals as goal

pub returns-in-None-clause-told : goal.returns-in-None-clause-told
returns-in-None-clause-told g c = λ t h.
    none_next t c.loop-before._before c.args.position (omega (arith, c.loop-before-test.true))
    (subst (λ (o : Option ℕ). LeftImages t c.loop-before._before o) c.in-None.is (c.loop-before.invariant.left t h))

pub loop-before-preserved : goal.loop-before-preserved
loop-before-preserved g c = record {
  within = search rules;
  left = λ t h. next_left t _ _ c.in-Some.image c.loop-before._before _ h
      (subst (λ (o : Option ℕ). LeftImages t c.loop-before._before o) c.in-Some.is (c.loop-before.invariant.left t h))
      c.next_sibling-next.ensures.sibling;
}

pub returns-in-Some-next-clause-told : goal.returns-in-Some-next-clause-told
returns-in-Some-next-clause-told g c = λ t h.
    let here : c.loop-before._before ≡ c.args.position = search rules in
    image_next t c.in-Some-next.image c.args.position
    (subst (λ (k : ℕ). LeftImages t k (Some c.in-Some-next.image)) here
    (subst (λ (o : Option ℕ). LeftImages t c.loop-before._before o) c.in-Some-next.is (c.loop-before.invariant.left t h)))

pub returns-in-None-next-clause-told : goal.returns-in-None-next-clause-told
returns-in-None-next-clause-told g c = λ t h.
    none_next t c.loop-before._before c.args.position (search rules)
    (subst (λ (o : Option ℕ). LeftImages t c.loop-before._before o) c.in-None-next.is (c.loop-before.invariant.left t h))
