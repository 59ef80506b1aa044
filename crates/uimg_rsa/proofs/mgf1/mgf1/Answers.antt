use Rattle.std.proofs.Common.{ℕ, ap, ◌∙◌}
use Rattle.std.specs.Int.{div_ceil}
use Rattle.uimg_rsa.proofs.HashLaws.{mask-front}
use Rattle.uimg_rsa.proofs.mgf1.mgf1.Goals as goal

pub returns : goal.returns
returns c = mask-front c.args.algo c.args.seed.now c.hashes.result c.args.len c.div_ceil.result
    (c.div_ceil.ensures ∙ ap (λ (size : ℕ). div_ceil c.args.len size) c.len.ensures) c.hashes.ensures
