use Rattle.std.proofs.Common.{rules, ◌≡◌, Some}
use Rattle.uimg_c.proofs.StrictLaws.{read_if_done}
use Rattle.uimg_c.specs.{Codes.strength, Strict.strict_code, declared.codes.Code.Code}
use Rattle.uimg_c.proofs.strict_checks.check_strictly.Goals as goal

pub returns-clause-read : goal.returns-clause-read
returns-clause-read c = λ done fit.
    let code : Code = record { status = c.report_of.result.status; fault = c.report_of.result.fault; place = c.report_of.result.place } in
    let is : strict_code (strength c.args.need) c.args.image.now ≡ Some code = search rules in
    read_if_done (strength c.args.need) c.args.image.now code is done fit
