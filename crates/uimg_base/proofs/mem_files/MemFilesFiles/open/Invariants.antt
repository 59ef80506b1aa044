use Rattle.std.proofs.Common.{◌≡◌, ◌∷◌, drop}
use Rattle.uimg_base.specs.Named.{bytes_named}
use Rattle.uimg_base.proofs.mem_files.MemFilesFiles.open.Given as goal

-- the name is not that of a file before the index
abbrev pub invariant-loop-known : goal.invariant-loop-known
invariant-loop-known l = record { named : bytes_named l.name (drop l.known-index l.self.files.now) ≡ bytes_named l.name l.self.files.now; refusals : l.self.refusals ≡ l.fn.self.refusals; names : l.self.opened.names ≡ l.name ∷ l.fn.self.opened.names }
