use Rattle.std.proofs.Common.{rules}
use Rattle.uimg_rsa.proofs.ValidLaws.{valid-pss}
use Rattle.uimg_rsa.specs.Pss.{pss_verdict}
use Rattle.uimg_rsa.proofs.pss.verify_pss.Goals as goal

pub returns-in_err-em-clause-verdict : goal.returns-in_err-em-clause-verdict
unfolding pss_verdict
returns-in_err-em-clause-verdict c = search rules

pub returns-in_err-em-clause-valid : goal.returns-in_err-em-clause-valid
returns-in_err-em-clause-valid c = valid-pss _ _ _ _ _ _ (returns-in_err-em-clause-verdict c)

pub returns-then-not-is_consistent-clause-verdict : goal.returns-then-not-is_consistent-clause-verdict
unfolding pss_verdict
returns-then-not-is_consistent-clause-verdict c = search rules

pub returns-then-not-is_consistent-clause-valid : goal.returns-then-not-is_consistent-clause-valid
returns-then-not-is_consistent-clause-valid c = valid-pss _ _ _ _ _ _ (returns-then-not-is_consistent-clause-verdict c)

pub returns-clause-verdict : goal.returns-clause-verdict
unfolding pss_verdict
returns-clause-verdict c = search rules

pub returns-clause-valid : goal.returns-clause-valid
returns-clause-valid c = valid-pss _ _ _ _ _ _ (returns-clause-verdict c)
