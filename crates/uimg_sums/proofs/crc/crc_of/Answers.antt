use Rattle.std.proofs.Common.{[]}
use Rattle.uimg_sums.proofs.crc.crc_of.Goals as goal

pub returns : goal.returns
returns c = c.value.ensures _ (c.feed.ensures [] c.start-sum.ensures)
