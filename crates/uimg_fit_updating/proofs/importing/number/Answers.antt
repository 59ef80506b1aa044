use Rattle.std.proofs.Common.{rules, ◌∙◌, Some, ap, sym}
use Rattle.uimg_fit_reading.proofs.CellLaws.{number_of_four, no_number}
use Rattle.uimg_fit_updating.proofs.importing.number.Goals as goal

pub returns-then-bytes-eq4 : goal.returns-then-bytes-eq4
returns-then-bytes-eq4 c = ap Some c.be32_at.ensures ∙ sym (number_of_four c.args.bytes.now (search rules))

pub returns-else-bytes-eq4 : goal.returns-else-bytes-eq4
returns-else-bytes-eq4 c = sym (no_number c.args.bytes.now (search rules))
