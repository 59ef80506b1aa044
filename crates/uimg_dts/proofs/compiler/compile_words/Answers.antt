use Rattle.uimg_dts.proofs.SoundLaws.{node_same}
use Rattle.uimg_dts.proofs.compiler.compile_words.Goals as goal

pub returns-clause-sound : goal.returns-clause-sound
returns-clause-sound g c =
    node_same (g.F.Files.map c.args.files.now) (g.F.Files.map c.statements.new.files) c.in_ok-root.root c.in_ok-statements.ensures.opens.files.same c.in_ok-root.ensures.sound
