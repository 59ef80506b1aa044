use Rattle.std.proofs.Common.{refl}
use Rattle.uimg_unpacking.proofs.staging.Staging.complete.Goals as goal

pub returns-then-is_complete-clause-staged : goal.returns-then-is_complete-clause-staged
returns-then-is_complete-clause-staged g c = λ knows bytes is. refl
