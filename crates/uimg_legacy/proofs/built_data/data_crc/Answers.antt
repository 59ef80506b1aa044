use Rattle.std.proofs.Common.{rules, []}
use Rattle.uimg_legacy.proofs.built_data.data_crc.Goals as goal

pub returns : goal.returns
returns g c = record { uses = search rules; answer = λ honest. c.value.ensures _ (c.in_ok-feed_data.ensures.fed honest [] c.start-sum.ensures) }
