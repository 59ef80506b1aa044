use Rattle.std.proofs.Common.{◌∙◌, sym, arith}
use Rattle.uimg_sums.proofs.CrcSixteen.{both, table_steps}
use Rattle.uimg_sums.proofs.crc_steps.entries_after.Goals as goal

pub returns : goal.returns
returns c =
    both (both (both (both (both (both (both c.entry_after.ensures c.entry_after-2.ensures) c.entry_after-3.ensures) c.entry_after-4.ensures) c.entry_after-5.ensures) c.entry_after-6.ensures) c.entry_after-7.ensures) c.entry_after-8.ensures
    ∙ sym (table_steps c.args.zeros c.args.number (omega arith))
