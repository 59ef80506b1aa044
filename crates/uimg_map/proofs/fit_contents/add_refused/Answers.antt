use Rattle.std.proofs.Common.{◌≡◌, [], false, Result, Err, ◌∙◌, sym, subst}
use Rattle.uimg_blob_reading.specs.Faults.{refuses_memory}
use Rattle.uimg_fit_base.specs.declared.fault.Fault.{Fault, TheVariants.{Blob, Fit}}
use Rattle.uimg_fit_checking.specs.declared.surveying.fault.SurveyFault.TheVariants.{Stopped}
use Rattle.uimg_fit_checking.specs.{Survey.{Said, survey_of}, SurveyParts.Surveys}
use Rattle.uimg_map.specs.{Contents.GrowsBy, FitContents.survey_told}
use Rattle.uimg_map.proofs.fit_contents.add_refused.Goals as goal

pub returns-in_ok-refuse_at-in-Blob-clause-grows : goal.returns-in_ok-refuse_at-in-Blob-clause-grows
returns-in_ok-refuse_at-in-Blob-clause-grows c file told =
    let arm = c.in-Blob in
    let kept : refuses_memory arm.blob ≡ false = sym c.refuses_memory.ensures ∙ c.if-refuses_memory.false in
    let says : survey_of file ≡ Err (Blob arm.blob arm.at) = (subst (λ (fault : Fault). Surveys file (Err (Stopped fault))) arm.is told) kept in
    subst (λ (said : Result Said Fault). GrowsBy file (survey_told file said) c.args.contents.now c.refuse_at.new.self) (sym says) (c.in_ok-refuse_at-in-Blob.ensures.grows file)

pub returns-in-Fit-clause-size : goal.returns-in-Fit-clause-size
returns-in-Fit-clause-size c = (c.refuse.ensures []).size

pub returns-in-Fit-clause-grows : goal.returns-in-Fit-clause-grows
returns-in-Fit-clause-grows c file told =
    let says : survey_of file ≡ Err (Fit c.in-Fit.fault) = subst (λ (fault : Fault). Surveys file (Err (Stopped fault))) c.in-Fit.is told in
    subst (λ (said : Result Said Fault). GrowsBy file (survey_told file said) c.args.contents.now c.refuse.new.self) (sym says) (c.refuse.ensures file)
