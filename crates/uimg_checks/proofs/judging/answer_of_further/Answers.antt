use Rattle.std.proofs.Common.{rules, Result, subst}
use Rattle.uimg_checks.specs.declared.finding.Checked.TheVariants as checked
use Rattle.uimg_checks.specs.declared.judging.Further.{Further}
use Rattle.uimg_fit_checking.specs.Checks.{named_finding}
use Rattle.uimg_fit_checking.specs.declared.surveying.fault.SurveyFault.{SurveyFault}
use Rattle.uimg_checks.specs.StrictEnds.{TellsFurther}
use Rattle.uimg_checks.proofs.StrictLaws.{stopped_shown}
use Rattle.uimg_checks.proofs.judging.answer_of_further.Goals as goal

pub returns-in-Err-Stopped-clause-shown : goal.returns-in-Err-Stopped-clause-shown
returns-in-Err-Stopped-clause-shown g c = λ honest verdict told.
    let file = (g.S.Source.device c.args.source.now).bytes in
    let found = checked.Fit (named_finding file c.args.finding) in
    stopped_shown verdict file found c.in-Err-Stopped.field-0 c.in-Err-Stopped.fault c.from.result c.answer_of_fault.result (search rules) c.from.ensures
    (subst (λ (r : Result Further SurveyFault). TellsFurther verdict file found r) c.in-Err-Stopped.is told) c.answer_of_fault.ensures
