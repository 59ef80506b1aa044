use Rattle.std.proofs.Common.{ℕ, ap, nat_eq}
use Rattle.uimg_sums.proofs.bundle.Bundle.is_empty.Goals as goal

pub returns : goal.returns
returns c = λ algos fed held. ap (λ (n : ℕ). nat_eq n 0) (c.len.ensures algos fed held)
