use Rattle.std.proofs.Common.{arith}
use Rattle.uimg_rsa.proofs.{HashLaws.size-most, PssLaws.unmasked}
use Rattle.uimg_rsa.proofs.pss.data_block.Goals as goal

pub returns : goal.returns
returns c =
    unmasked c.args.algo c.args.em.now c.mgf1-mask.result c.xor_of-block.result c.len-size.result c.len-size.ensures
    (omega (arith, c.len-size.ensures, size-most c.args.algo)) c.mgf1-mask.ensures c.xor_of-block.ensures
