use Rattle.std.proofs.Common.{◌*◌, ◌+◌, false}
use Rattle.uimg_blob_writing.specs.UsingFiles.{UsesFiles}
use Rattle.uimg_dts.proofs.bodies.+bodies.Given as goal

abbrev pub decreases-child : goal.decreases-child
decreases-child g l = l.levels * 4

abbrev pub decreases-read_item : goal.decreases-read_item
decreases-read_item g l = l.levels * 4 + 1

abbrev pub decreases-body : goal.decreases-body
decreases-body g l = l.levels * 4 + 2

-- no open was refused so far
abbrev pub invariant-body-loop : goal.invariant-body-loop
invariant-body-loop g l = UsesFiles false (g.F.Files.map l.fn.files) (g.F.Files.map l.files)
