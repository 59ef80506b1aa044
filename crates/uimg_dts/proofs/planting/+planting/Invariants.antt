use Rattle.std.proofs.Common.{◌*◌, ◌+◌, false}
use Rattle.uimg_blob_writing.specs.UsingFiles.{UsesFiles}
use Rattle.uimg_dts.specs.FileValues.{AreSoundNodes}
use Rattle.uimg_dts.proofs.planting.+planting.Given as goal

abbrev pub decreases-plant : goal.decreases-plant
decreases-plant g l = l.levels * 3

abbrev pub decreases-live_node : goal.decreases-live_node
decreases-live_node g l = l.levels * 3 + 1

abbrev pub decreases-children : goal.decreases-children
decreases-children g l = l.levels * 3 + 2

-- no open was refused so far, and files stand where they may
abbrev pub invariant-children-loop : goal.invariant-children-loop
invariant-children-loop g l = record {
  files : UsesFiles false (g.F.Files.map l.fn.files) (g.F.Files.map l.files);
  sound : AreSoundNodes (g.F.Files.map l.fn.files) l.nodes.items;
}
