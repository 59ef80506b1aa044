use Rattle.std.proofs.Common.{drop}
use Rattle.uimg_strict.proofs.AgainLaws.{LeftAgain}
use Rattle.uimg_strict.proofs.names.first_again.Given as goal

-- the set has the names before the index, and none of them came again
abbrev pub invariant-loop-name : goal.invariant-loop-name
invariant-loop-name l = LeftAgain l.known (drop l.name-index l.names) l.names
