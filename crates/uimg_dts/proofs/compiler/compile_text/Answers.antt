use Rattle.uimg_dts.proofs.SoundLaws.{answer_same}
use Rattle.uimg_dts.proofs.compiler.compile_text.Goals as goal

pub returns-clause-sound : goal.returns-clause-sound
returns-clause-sound g c =
    answer_same (λ x. x.tree.root) (g.F.Files.map c.args.files.now) (g.F.Files.map c.lex.new.files) c.compile_words.result c.in_ok-sheet.ensures.opens.files.same c.compile_words.ensures.sound
