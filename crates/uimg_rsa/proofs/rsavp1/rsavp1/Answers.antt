use Rattle.std.proofs.Common.{arith}
use Rattle.uimg_rsa.proofs.OctetLaws.{full-modulus}
use Rattle.uimg_rsa.proofs.rsavp1.rsavp1.Goals as goal

pub power-power-requires-clause-full : goal.power-power-requires-clause-full
power-power-requires-clause-full c =
    full-modulus c.args.modulus.now _ _ c.number_of-modulus_number.ensures (omega arith) (omega arith) c.requires.full
