use Rattle.std.proofs.Common.{◌≡◌, drop}
use Rattle.uimg_base.specs.Named.{bytes_named}
use Rattle.uimg_world.proofs.memory_world.bytes_at.Given as goal

-- the path is not that of a file before the index
abbrev pub invariant-loop-known : goal.invariant-loop-known
invariant-loop-known l = bytes_named l.path (drop l.known-index l.files) ≡ bytes_named l.path l.files
