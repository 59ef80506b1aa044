use Rattle.std.proofs.Common.{false}
use Rattle.uimg_blob_writing.specs.UsingFiles.{UsesFiles}
use Rattle.uimg_dts.proofs.values.values.Given as goal

-- no open was refused so far
abbrev pub invariant-loop : goal.invariant-loop
invariant-loop g l = UsesFiles false (g.F.Files.map l.fn.files) (g.F.Files.map l.files)
