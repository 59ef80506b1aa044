use Rattle.std.proofs.Common.{false, map}
use Rattle.uimg_blob_writing.specs.{Properties.property, UsingFiles.UsesFiles}
use Rattle.uimg_dts.specs.FileValues.{AreSound}
use Rattle.uimg_dts.proofs.planting.properties.Given as goal

-- no open was refused so far, and files stand where they may
abbrev pub invariant-loop : goal.invariant-loop
invariant-loop g l = record {
  files : UsesFiles false (g.F.Files.map l.fn.files) (g.F.Files.map l.files);
  sound : AreSound (g.F.Files.map l.fn.files) (map property l.props.items);
}
