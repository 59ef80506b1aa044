use Rattle.std.proofs.Common.{◌≡◌, drop, map}
use Rattle.uimg_strict.specs.Names.{has_name}
use Rattle.uimg_strict.specs.Telling.{items_of}
use Rattle.uimg_strict.proofs.names.has_name.Given as goal

-- no name before the index is the same
abbrev pub invariant-loop-known : goal.invariant-loop-known
invariant-loop-known l = has_name l.name (map items_of (drop l.known-index l.names)) ≡ has_name l.name (map items_of l.names)
