use Rattle.std.proofs.Common.{◌≡◌, ◌*◌, take}
use Rattle.uimg_sums.specs.Algorithms.{digest_size}
use Rattle.uimg_rsa.specs.Mgf1.{hashes}
use Rattle.uimg_rsa.proofs.mgf1.hashes.Given as goal

abbrev pub invariant-loop-counter : goal.invariant-loop-counter
invariant-loop-counter l = record {
  at : l.at ≡ l.counter * digest_size l.algo;
  hashes : take l.at l.mask ≡ hashes l.algo l.seed l.counter;
}
