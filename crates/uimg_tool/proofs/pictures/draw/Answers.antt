use Rattle.std.proofs.Common.{Ok, ◌∙◌, ap, refl}
use Rattle.uimg_tool.proofs.DrawingLaws.{drawn_beside, drawn_in_place, drawn_to_pipe, not_begun, not_created}
use Rattle.uimg_tool.proofs.pictures.draw.Goals as goal

pub returns-in-Ok-Beside : goal.returns-in-Ok-Beside
returns-in-Ok-Beside g c = record {
  fails = c.name_written.ensures.fails;
  asks = drawn_beside c.args.path.now c.args.request.now.is_forced c.writing_of.result c.in-Ok-Beside.file c.in-Ok-Beside.safe _ _ _ _ _ (c.in-Ok-Beside.is ∙ ap (λ w. Ok w) c.in-Ok-Beside.field-0-is) c.as_str.ensures.value c.writing_of.ensures.writes c.draw_into-drawn.ensures.fills c.name_written.ensures.asks;
}

pub returns-in-Ok-InPlace : goal.returns-in-Ok-InPlace
returns-in-Ok-InPlace g c = record {
  fails = c.draw_in_place.ensures.fails;
  asks = drawn_in_place c.args.path.now c.args.request.now.is_forced c.writing_of.result _ _ _ (c.in-Ok-InPlace.is ∙ ap (λ w. Ok w) c.in-Ok-InPlace.field-0-is) c.writing_of.ensures.writes c.draw_in_place.ensures.asks;
}

pub returns-in-Ok-Pipe : goal.returns-in-Ok-Pipe
returns-in-Ok-Pipe g c = record {
  fails = c.draw_in_place-in-Ok-Pipe.ensures.fails;
  asks = drawn_to_pipe c.args.path.now c.args.request.now.is_forced c.writing_of.result _ _ _ (c.in-Ok-Pipe.is ∙ ap (λ w. Ok w) c.in-Ok-Pipe.field-0-is) c.writing_of.ensures.writes c.draw_in_place-in-Ok-Pipe.ensures.asks;
}

pub returns-in-Ok-Nowhere : goal.returns-in-Ok-Nowhere
returns-in-Ok-Nowhere g c = record {
  fails = c.unwritten.ensures;
  asks = not_created c.args.path.now c.args.request.now.is_forced c.writing_of.result c.in-Ok-Nowhere.reason _ _ (c.in-Ok-Nowhere.is ∙ ap (λ w. Ok w) c.in-Ok-Nowhere.field-0-is) c.writing_of.ensures.writes;
}

pub returns-in-Err : goal.returns-in-Err
returns-in-Err g c = record {
  fails = refl;
  asks = not_begun c.args.path.now c.args.request.now.is_forced c.writing_of.result c.in-Err.field-0 _ _ c.in-Err.is c.writing_of.ensures.writes;
}
