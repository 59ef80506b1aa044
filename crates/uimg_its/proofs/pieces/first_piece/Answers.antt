use Rattle.std.proofs.Common.{ap, sym, ◌∙◌, arith, drop, length-drop}
use Rattle.uimg_its.specs.Words.{name_word}
use Rattle.uimg_its.proofs.LexLaws.{take_front, piece_name}
use Rattle.uimg_its.proofs.pieces.first_piece.Goals as goal

pub returns-then-is_name_byte : goal.returns-then-is_name_byte
returns-then-is_name_byte c = (
  piece_name _ (drop 1 c.args.text.now) _ c.name_length-n.result (sym c.if-is_blank.ensures) c.if-b-eq47.false (sym c.if-is_name_byte.ensures) (rw c.after-rest.ensures at c.name_length-n.ensures.length)
      (c.name_word.ensures ∙ ap name_word (take_front c.args.text.now c.name_length-n.result (omega arith))),
  omega (arith, rw c.after-rest.ensures at c.name_length-n.ensures.within, length-drop 1 c.args.text.now),
)
