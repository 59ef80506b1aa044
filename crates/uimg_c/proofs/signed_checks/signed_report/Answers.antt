use Rattle.std.proofs.Common.{rules, ◌≡◌, ℕ, Some}
use Rattle.uimg_c.specs.{Codes.strength, Signed.signed_code}
use Rattle.uimg_c.proofs.signed_checks.signed_report.Goals as goal

pub returns-clause-told : goal.returns-clause-told
returns-clause-told c = λ known keyed.
    let code : signed_code (strength c.args.need) (Some c.in-Ok.required) c.args.image.now ≡ Some (record { status = c.report_of-2.result.status; fault = c.report_of-2.result.fault; place = c.report_of-2.result.place }) = search rules in
    record { required = c.in-Ok.required; asked = c.in-Ok.ensures; code = code; no_text = c.report_of-2.ensures.no_text }
