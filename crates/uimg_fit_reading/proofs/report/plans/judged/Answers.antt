use Rattle.std.{proofs.Common.{sym, ◌∙◌, ap, length, rules}, specs.Prelude.{Bool, if◌then◌else◌}}
use Rattle.uimg_fit_base.specs.declared.verdicts.Verdict.TheVariants.{Right, Wrong}
use Rattle.uimg_fit_base.specs.AlgoSets.{set_of}
use Rattle.uimg_fit_reading.proofs.{PlanLaws.{compared_word, covered_algo}, PassedLaws.passed_on}
use Rattle.uimg_fit_reading.proofs.report.plans.judged.Goals as goal

pub returns-then-branch-clause-word : goal.returns-then-branch-clause-word
returns-then-branch-clause-word g c = λ honest message are covered.
    let file = (g.S.Source.device c.args.source.now).bytes in
    let same = c.in_ok-is_digest-in-Compared.field-0 in
    let in_use = covered_algo (set_of c.args.digests.now) c.args.plan c.in-Compared.algo c.in-Compared.span c.in-Compared.is covered in
    sym (compared_word file message c.by.result (length file) c.args.plan c.in-Compared.algo c.in-Compared.span same
    c.in-Compared.is c.requires (c.by.ensures message are in_use) (c.in_ok-is_digest-in-Compared.ensures.same honest)
    ∙ ap (λ (b : Bool). if b then Right else Wrong) c.if-branch.true)

pub returns-in_err-is_digest-in-Compared : goal.returns-in_err-is_digest-in-Compared
returns-in_err-is_digest-in-Compared g c = rw (passed_on c.from_residual.result c.in_err-is_digest-in-Compared.field-0.0 c.from_residual.ensures.1)
    (record { uses = search rules; word = λ honest message are covered. tt; compared = tt })
