use Rattle.std.proofs.Common.{◌+◌, ◌*◌, ◌/◌, ap, ℕ}
use Rattle.uimg_blob_writing.specs.Alignment.{aligned, rounded}
use Rattle.uimg_blob_writing.proofs.alignment.aligned.Goals as goal

pub returns-clause-place : goal.returns-clause-place
unfolding aligned
returns-clause-place c = ap (λ (n : ℕ). rounded (n / 4) ((c.args.size + 3) / 4) * 4) c.saturating_sub.ensures
