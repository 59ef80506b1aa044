use Rattle.std.{proofs.Common.{◌++◌, ap, refl, ℕ, List, ◌∙◌, drop}, specs.Int.{to_be_bytes, w32}}
use Rattle.uimg_sums.proofs.crc.CrcSummer.finish.Goals as goal

pub returns-clause-digest : goal.returns-clause-digest
returns-clause-digest c = λ fed held.
    (refl, ap (λ (w : List ℕ). w ++ drop 4 c.args.to.now) (c.copy_from_slice.ensures.after ∙ c.to_be_bytes-digest.ensures ∙ ap (λ (n : ℕ). to_be_bytes w32 n) (c.value.ensures fed held)))
