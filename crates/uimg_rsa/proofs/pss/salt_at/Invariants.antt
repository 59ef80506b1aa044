use Rattle.std.proofs.Common.{◌≡◌, drop}
use Rattle.uimg_rsa.specs.Pss.{salt_of}
use Rattle.uimg_rsa.proofs.pss.salt_at.Given as goal

abbrev pub invariant-loop-at : goal.invariant-loop-at
invariant-loop-at l = salt_of (drop l.at l.block) ≡ salt_of l.block
