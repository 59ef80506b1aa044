use Rattle.std.proofs.Common.{◌≤◌, length}
use Rattle.uimg_legacy.specs.Parts.{sizes}
use Rattle.uimg_legacy.proofs.table.leading_sizes.Given as goal

-- no word below i is zero
abbrev pub invariant-loop-i : goal.invariant-loop-i
invariant-loop-i l = l.i ≤ length (sizes l.bytes)
