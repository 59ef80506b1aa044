use Rattle.std.proofs.Common.{arith}
use Rattle.uimg_sums.proofs.CrcLaw.{crc_is}
use Rattle.uimg_sums.proofs.crc.Crc.value.Goals as goal

pub returns : goal.returns
returns c = λ fed held. omega (arith, crc_is fed held.1, held.0)
