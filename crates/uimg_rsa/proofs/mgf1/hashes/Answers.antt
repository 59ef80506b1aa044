use Rattle.std.proofs.Common.{arith}
use Rattle.uimg_rsa.proofs.HashLaws.{hashes-none, hashes-more}
use Rattle.uimg_rsa.proofs.mgf1.hashes.Goals as goal

pub loop-counter-init : goal.loop-counter-init
loop-counter-init c = record {
  at = omega arith;
  hashes = hashes-none c.args.algo c.args.seed.now;
}

pub loop-counter-preserved : goal.loop-counter-preserved
loop-counter-preserved c = record {
  at = omega (arith, c.loop-counter.invariant.at, c.len-size.ensures);
  hashes = hashes-more c.args.algo c.args.seed.now c.to_be_bytes.result c.hash_of-hash.result _ c.put.new.to c.loop-counter.counter c.loop-counter.at
      c.len-size.result c.loop-counter.invariant.hashes c.len-size.ensures c.to_be_bytes.ensures c.hash_of-hash.ensures c.put.ensures;
}
