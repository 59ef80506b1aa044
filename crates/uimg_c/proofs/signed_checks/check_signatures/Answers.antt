use Rattle.std.proofs.Common.{rules, ◌≢◌, arith, ℕ}
use Rattle.uimg_c.proofs.SignedLaws.{signed_if_done, read_if_signed}
use Rattle.uimg_c.proofs.signed_checks.check_signatures.Goals as goal

pub returns-clause-signed : goal.returns-clause-signed
returns-clause-signed c = λ zero. signed_if_done _ _ _ _ _ (c.signed_report.ensures.told (omega (arith, zero)) (omega (arith, zero))) zero

pub returns-clause-read : goal.returns-clause-read
returns-clause-read c = λ zero. read_if_signed _ _ _ _ _ (c.signed_report.ensures.told (omega (arith, zero)) (omega (arith, zero))) zero
