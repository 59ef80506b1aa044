use Rattle.std.proofs.Common.{rules}
use Rattle.uimg_its.proofs.IncludedLaws.{unopened}
use Rattle.uimg_its.proofs.values.value_step.Goals as goal

pub returns-in_err-first-clause-included : goal.returns-in_err-first-clause-included
returns-in_err-first-clause-included g c = unopened _ _ (search rules)
