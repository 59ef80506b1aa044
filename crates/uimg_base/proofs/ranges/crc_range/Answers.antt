use Rattle.std.proofs.Common.{[]}
use Rattle.uimg_base.proofs.RangeLaws.{summed_right}
use Rattle.uimg_base.proofs.ranges.crc_range.Goals as goal

-- the sum began with no bytes
pub returns-clause-crc : goal.returns-clause-crc
returns-clause-crc g c = λ honest. c.value.ensures _ (summed_right c.in_ok-feed_through.ensures.fed honest [] c.start-sum.ensures)
