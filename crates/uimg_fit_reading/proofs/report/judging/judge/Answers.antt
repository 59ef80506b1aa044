use Rattle.std.proofs.Common.{ℕ, List, refl, subst, sym, ap, ◌∙◌, ◌≡◌}
use Rattle.uimg_fit_base.specs.{AlgoSets.set_of, Report.named_word}
use Rattle.uimg_fit_reading.specs.{declared.report.plans.Plan.Plan, Plans.{IsCovered, word_by}}
use Rattle.uimg_fit_reading.proofs.{OpenedLaws.still, PlanLaws.of_answer}
use Rattle.uimg_fit_reading.proofs.report.judging.judge.Goals as goal

pub returns-clause-word : goal.returns-clause-word
returns-clause-word g c = λ t o found more at message are covered.
    let same = c.plan_at.ensures.uses.same in
    let here = still same refl o in
    let plan = c.in_ok-plan.plan in
    let known = subst (λ (p : Plan). IsCovered (set_of c.args.digests.now) p) (sym (c.in_ok-plan.ensures.plan t o found more at)) covered in
    let word = c.in_ok-plan.ensures.word t o found more at message in
    of_answer c.judged.result (λ word. word ≡ word_by (g.S.Source.device c.plan_at.new.source).bytes message plan) (λ word. word ≡ named_word c.args.naming message found)
    (λ w is. is ∙ ap (λ (xs : List ℕ). word_by xs message plan) same.bytes ∙ word) (c.judged.ensures.word here.honest message are known)
