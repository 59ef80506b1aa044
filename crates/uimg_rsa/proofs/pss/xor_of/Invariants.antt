use Rattle.std.proofs.Common.{◌≡◌, length, take}
use Rattle.uimg_rsa.specs.Pss.{xor_octets}
use Rattle.uimg_rsa.proofs.pss.xor_of.Given as goal

abbrev pub invariant-loop-i : goal.invariant-loop-i
invariant-loop-i l = record {
  long : length l.octets ≡ 512;
  octets : take l.i l.octets ≡ xor_octets (take l.i l.a) (take l.i l.b);
}
