use Rattle.std.proofs.Common.{rules, ◌∙◌, ℕ, Option, refl, subst, ap}
use Rattle.uimg_fit_reading.specs.{Nodes.HashesAt, Plans.with_plan}
use Rattle.uimg_fit_reading.proofs.{OpenedLaws.still, PassedLaws.failed_of}
use Rattle.uimg_fit_reading.proofs.HashReportLaws.{algos_first, algos_more, algos_cut, algos_all}
use Rattle.uimg_fit_reading.proofs.report.digests.compared_algos.Goals as goal

pub loop-next-init : goal.loop-next-init
loop-next-init g c = record {
  same = search rules;
  failures = search rules;
  within = search rules;
  left = λ t o hs at. algos_first c.args.naming t hs _ _ c.args.first c.none-set.ensures at;
}

pub returns-in_err-plan-clause-found : goal.returns-in_err-plan-clause-found
returns-in_err-plan-clause-found g c = λ t o hs at.
    let k = c.loop-next.invariant.left t o hs at in
    let first = subst (λ (x : Option ℕ). HashesAt t x k.left) c.in-Some.is k.at in
    let failed = failed_of c.from_residual.result c.from_residual.ensures.0 in
    algos_cut c.args.naming t hs _ _ c.in-Some.hash c.loop-next.set c.loop-next.next k first _ c.from_residual.result c.plan_at.ensures.uses.asked failed

pub loop-next-preserved : goal.loop-next-preserved
loop-next-preserved g c = record {
  same = search rules;
  failures = search rules;
  within = search rules;
  left = λ t o hs at.
      let k = c.loop-next.invariant.left t o hs at in
      let first = subst (λ (x : Option ℕ). HashesAt t x k.left) c.in-Some.is k.at in
      let here = still c.loop-next.invariant.same refl o in
      algos_more c.args.naming t hs _ _ c.in-Some.hash c.loop-next.set c.loop-next.next k first c.with_plan-set.result c.next_hash-next.result _
      (c.with_plan-set.ensures ∙ ap (with_plan c.loop-next.set) (c.in_ok-plan.ensures.plan t here first.hash first.more first.at))
      c.plan_at.ensures.uses.asked (c.next_hash-next.ensures.hashes t o.read.indexed first.hash first.more first.at);
}

pub returns-clause-found : goal.returns-clause-found
returns-clause-found g c = λ t o hs at.
    algos_all c.args.naming t hs _ _ c.loop-next.set c.loop-next.next (search rules) (c.loop-next.invariant.left t o hs at)
