use Rattle.std.proofs.Common.{◌≡◌, drop}
use Rattle.uimg_strict.specs.Names.{has_at}
use Rattle.uimg_strict.proofs.names.has_at.Given as goal

-- no byte before the index is an `@`
abbrev pub invariant-loop-byte : goal.invariant-loop-byte
invariant-loop-byte l = has_at (drop l.byte-index l.name) ≡ has_at l.name
