use Rattle.std.proofs.Common.{rules, ◌≡◌, Result, Err, subst}
use Rattle.uimg_engine.specs.declared.fault.Fault.{Fault}
use Rattle.uimg_fit_checking.specs.declared.surveying.fault.SurveyFault.{SurveyFault, TheVariants.{Stopped}}
use Rattle.uimg_checks.specs.CheckEnds.{AnswersFault}
use Rattle.uimg_checks.specs.Choices.{TellsChoice}
use Rattle.uimg_checks.specs.declared.choosing.Choice.{Choice}
use Rattle.uimg_checks.proofs.ChoosingLaws.{fault_unchosen}
use Rattle.uimg_checks.proofs.choosing.answer_of_choice.Goals as goal

pub returns-in-Err-Stopped-clause-chosen : goal.returns-in-Err-Stopped-clause-chosen
returns-in-Err-Stopped-clause-chosen g c = λ honest chosen told.
    let file = (g.S.Source.device c.args.source.now).bytes in
    let stops : c.in-Err-Stopped.field-0 ≡ Stopped c.in-Err-Stopped.fault = search rules in
    let stopped = subst (λ (r : Result Choice SurveyFault). TellsChoice chosen file r) c.in-Err-Stopped.is told in
    fault_unchosen file chosen c.in-Err-Stopped.fault c.answer_of_fault.result (subst (λ (f : SurveyFault). TellsChoice chosen file (Err f)) stops stopped)
    (subst (λ (f : Fault). AnswersFault f c.answer_of_fault.result) c.from.ensures c.answer_of_fault.ensures)
