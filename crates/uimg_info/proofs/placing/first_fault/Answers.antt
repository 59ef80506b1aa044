use Rattle.std.proofs.Common.{◌≤◌, length, IsTrue, Bool, sym, subst, ◌∙◌, rules, arith}
use Rattle.uimg_info.proofs.PlacingLaws.{passed, is_first, none_left}
use Rattle.uimg_info.proofs.placing.first_fault.Goals as goal

pub loop-image-preserved : goal.loop-image-preserved
loop-image-preserved g c =
    let file = (g.S.Source.device c.args.source.now).bytes in
    let same = c.loop-image.invariant.same in
    let step = c.in_ok-place.ensures in
    record {
      same = record { bytes = step.uses.same.bytes ∙ same.bytes; honest = step.uses.same.honest ∙ same.honest };
      asked = omega (arith, step.uses.asked, c.loop-image.invariant.asked);
      failures = step.uses.failures ∙ c.loop-image.invariant.failures;
      left = λ honest.
          let there = subst (λ (b : Bool). IsTrue b) (sym same.honest) honest in
          passed file _ c.args.size c.args.totalsize c.args.images.now c.loop-image.image-index c.image-item.result c.in_ok-place.place _ c.image-item.is same.bytes c.loop-image-test.true c.fault_of-fault.ensures (step.place there) (sym c.is_some.ensures ∙ c.if-is_some.false)
          ∙ c.loop-image.invariant.left honest;
    }

pub returns-then-is_some-clause-told : goal.returns-then-is_some-clause-told
returns-then-is_some-clause-told g c = λ honest.
    let file = (g.S.Source.device c.args.source.now).bytes in
    let same = c.loop-image.invariant.same in
    let step = c.in_ok-place.ensures in
    let there = subst (λ (b : Bool). IsTrue b) (sym same.honest) honest in
    is_first file _ c.args.size c.args.totalsize c.args.images.now c.loop-image.image-index c.image-item.result c.in_ok-place.place _ c.image-item.is same.bytes c.loop-image-test.true c.fault_of-fault.ensures (step.place there) (sym c.is_some.ensures ∙ c.if-is_some.true)
    ∙ c.loop-image.invariant.left honest

pub returns-clause-told : goal.returns-clause-told
returns-clause-told g c = λ honest.
    let file = (g.S.Source.device c.args.source.now).bytes in
    let all : length c.args.images.now ≤ c.loop-image.image-index = search rules in
    none_left file c.args.size c.args.totalsize c.args.images.now c.loop-image.image-index all ∙ c.loop-image.invariant.left honest
