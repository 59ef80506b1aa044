use Rattle.std.proofs.Common.{rules}
use Rattle.uimg_rsa.proofs.ValidLaws.{valid-pkcs1}
use Rattle.uimg_rsa.specs.Pkcs1.{pkcs1_verdict}
use Rattle.uimg_rsa.proofs.pkcs1.verify_pkcs1.Goals as goal

pub returns-in_err-em-clause-verdict : goal.returns-in_err-em-clause-verdict
unfolding pkcs1_verdict
returns-in_err-em-clause-verdict c = search rules

pub returns-in_err-em-clause-valid : goal.returns-in_err-em-clause-valid
returns-in_err-em-clause-valid c = valid-pkcs1 _ _ _ _ _ _ (returns-in_err-em-clause-verdict c)

pub returns-then-ne-clause-verdict : goal.returns-then-ne-clause-verdict
unfolding pkcs1_verdict
returns-then-ne-clause-verdict c = search rules

pub returns-then-ne-clause-valid : goal.returns-then-ne-clause-valid
returns-then-ne-clause-valid c = valid-pkcs1 _ _ _ _ _ _ (returns-then-ne-clause-verdict c)

pub returns-clause-verdict : goal.returns-clause-verdict
unfolding pkcs1_verdict
returns-clause-verdict c = search rules

pub returns-clause-valid : goal.returns-clause-valid
returns-clause-valid c = valid-pkcs1 _ _ _ _ _ _ (returns-clause-verdict c)
