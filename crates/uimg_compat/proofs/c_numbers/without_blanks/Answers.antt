use Rattle.std.proofs.Common.{◌∙◌, rules}
use Rattle.uimg_compat.proofs.Numerals.{no_blank}
use Rattle.uimg_compat.proofs.c_numbers.without_blanks.Goals as goal

pub returns : goal.returns
returns c = no_blank c.loop-behind.rest.now (search rules) ∙ search rules
