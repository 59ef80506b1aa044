use Rattle.std.proofs.Common.{rules}
use Rattle.uimg_fit_reading.proofs.PassedLaws.{passed_on}
use Rattle.uimg_fit_reading.proofs.report.plans.is_digest.Goals as goal

pub returns-in_err-fill_at : goal.returns-in_err-fill_at
returns-in_err-fill_at g c = rw (passed_on c.from_residual.result c.in_err-fill_at.field-0.0 c.from_residual.ensures.1)
    (record { uses = record { same = c.fill_at.ensures.same; asked = search rules; failures = c.in_err-fill_at.ensures.failures }; same = λ honest. tt })
