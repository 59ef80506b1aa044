use Rattle.uimg_base.proofs.OutcomeLaws.{Tells-prefix}
use Rattle.uimg_engine.proofs.engine.run.Goals as goal

pub returns-clause-prefix : goal.returns-clause-prefix
returns-clause-prefix g c = λ honest. Tells-prefix _ _ _ _ (c.run_by.ensures.told honest)
