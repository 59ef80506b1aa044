use Rattle.uimg_blob_writing.specs.Trees.{node_of}
use Rattle.uimg_dts.proofs.SoundLaws.{files_at_data, are_kept}
use Rattle.uimg_dts.proofs.compiler.compile_all.Goals as goal

pub returns-in-Ok-clause-at_data : goal.returns-in-Ok-clause-at_data
returns-in-Ok-clause-at_data g c =
    files_at_data (g.F.Files.map c.args.files.now) (node_of c.in-Ok.compiled.tree.root) (c.in-Ok.ensures.sound.0, c.in-Ok.ensures.sound.1, tt)

pub returns-in-Ok-clause-kept : goal.returns-in-Ok-clause-kept
returns-in-Ok-clause-kept g c = λ honest.
    are_kept (g.F.Files.map c.args.files.now) (node_of c.in-Ok.compiled.tree.root) honest (c.in-Ok.ensures.sound.0, c.in-Ok.ensures.sound.1, tt)
