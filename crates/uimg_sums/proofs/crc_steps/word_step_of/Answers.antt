use Rattle.std.proofs.Common.{◌∙◌, ◌*◌, ap, bit_xor, rules, ℕ}
use Rattle.uimg_sums.specs.CrcSteps.{bit_steps}
use Rattle.uimg_sums.proofs.{CrcWord.word_steps, CrcSixteen.{both, half_steps}}
use Rattle.uimg_sums.proofs.crc_steps.word_step_of.Goals as goal

pub returns : goal.returns
returns c =
    both c.entries_after.ensures c.entries_after-2.ensures
    ∙ half_steps c.args.register c.from_le_bytes-number.result
    ∙ ap (λ (n : ℕ). bit_steps (16 * 8) (bit_xor c.args.register n)) c.from_le_bytes-number.ensures
    ∙ word_steps c.args.word c.args.register (search rules) (search rules)
