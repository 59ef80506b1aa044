use Rattle.std.proofs.lemmas.Result.{err_from_is_err_and}
use Rattle.uimg_fit_checking.specs.declared.surveying.fault.SurveyFault.TheVariants.{Stopped}
use Rattle.uimg_map.proofs.FitLaws.{images_then, refused_by}
use Rattle.uimg_map.proofs.fit_contents.add_surveyed.Goals as goal

pub returns-in_err-add_refused-in-Err-Stopped : goal.returns-in_err-add_refused-in-Err-Stopped
returns-in_err-add_refused-in-Err-Stopped g c =
    let p = err_from_is_err_and c.from_residual.result c.from_residual.ensures.1 in
    let arm = c.in-Err-Stopped in
    let added = c.in_err-add_refused-in-Err-Stopped.ensures in
    rw (p.1, p.2)
    (refused_by (Stopped arm.fault) (rw arm.field-0-is at arm.ensures.uses) (rw arm.field-0-is at arm.ensures.told) c.requires added.size added.read added.grows added.stops)

pub returns-in-Ok : goal.returns-in-Ok
returns-in-Ok g c = images_then c.in-Ok.found c.in-Ok.ensures.uses c.in-Ok.ensures.told c.add_payloads.ensures
