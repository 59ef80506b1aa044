use Rattle.std.proofs.Common.{Ok, ap, ◌∙◌}
use Rattle.uimg_tool.specs.Reports.{in_place}
use Rattle.uimg_tool.proofs.DrawingLaws.{drawn_beside, drawn_in_place, drawn_to_pipe, not_begun, not_created}
use Rattle.uimg_tool.proofs.ReportLaws.{fills, held_beside, new_empty, on_ok}
use Rattle.uimg_tool.proofs.reports.write_report.Goals as goal

pub returns-in-Ok-clause-asks : goal.returns-in-Ok-clause-asks
returns-in-Ok-clause-asks g c =
    drawn_beside c.args.path.now _ c.writing_of.result c.in-Ok-Beside.file c.in-Ok-Beside.safe _ _ _ _ _ (c.in-Ok-Beside.is ∙ ap (λ w. Ok w) c.in-Ok-Beside.field-0-is) c.as_str.ensures.value c.writing_of.ensures.writes (fills _ _ _ _ _ _ _ c.fill.ensures.fills) c.name_written.ensures.asks

pub returns-in-Ok-clause-holds : goal.returns-in-Ok-clause-holds
returns-in-Ok-clause-holds g c = λ honest.
    let sure = g.D.World.known c.args.world.now honest in
    held_beside _ _ _ _ _ _ c.fill.result _ c.name_written.result _ _ _ _ sure (new_empty _ c.writing_of.result c.in-Ok-Beside.file c.in-Ok-Beside.safe (c.in-Ok-Beside.is ∙ ap (λ w. Ok w) c.in-Ok-Beside.field-0-is) (c.writing_of.ensures.empty sure)) c.in-Ok.is c.as_str.ensures.value c.fill.ensures.fills c.name_written.ensures.named

pub returns-in-Ok-Beside-clause-asks : goal.returns-in-Ok-Beside-clause-asks
returns-in-Ok-Beside-clause-asks g c =
    drawn_beside c.args.path.now _ c.writing_of.result c.in-Ok-Beside.file c.in-Ok-Beside.safe _ _ _ _ _ (c.in-Ok-Beside.is ∙ ap (λ w. Ok w) c.in-Ok-Beside.field-0-is) c.as_str.ensures.value c.writing_of.ensures.writes (fills _ _ _ _ _ _ _ c.fill.ensures.fills) c.name_written-in-Err-fill.ensures.asks

pub returns-in-Ok-InPlace-clause-asks : goal.returns-in-Ok-InPlace-clause-asks
returns-in-Ok-InPlace-clause-asks g c = drawn_in_place c.args.path.now _ c.writing_of.result _ _ _ (c.in-Ok-InPlace.is ∙ ap (λ w. Ok w) c.in-Ok-InPlace.field-0-is) c.writing_of.ensures.writes c.write_in_place.ensures.asks

pub returns-in-Ok-InPlace-clause-holds : goal.returns-in-Ok-InPlace-clause-holds
returns-in-Ok-InPlace-clause-holds g c = λ honest. on_ok _ c.write_in_place.result (in_place c.args.path.now _ c.write_in_place.ensures.asks)

pub returns-in-Ok-Pipe-clause-asks : goal.returns-in-Ok-Pipe-clause-asks
returns-in-Ok-Pipe-clause-asks g c = drawn_to_pipe c.args.path.now _ c.writing_of.result _ _ _ (c.in-Ok-Pipe.is ∙ ap (λ w. Ok w) c.in-Ok-Pipe.field-0-is) c.writing_of.ensures.writes c.write_in_place-in-Ok-Pipe.ensures.asks

pub returns-in-Ok-Pipe-clause-holds : goal.returns-in-Ok-Pipe-clause-holds
returns-in-Ok-Pipe-clause-holds g c = λ honest. on_ok _ c.write_in_place-in-Ok-Pipe.result (in_place c.args.path.now _ c.write_in_place-in-Ok-Pipe.ensures.asks)

pub returns-in-Ok-Nowhere-clause-asks : goal.returns-in-Ok-Nowhere-clause-asks
returns-in-Ok-Nowhere-clause-asks g c = not_created c.args.path.now _ c.writing_of.result c.in-Ok-Nowhere.reason _ _ (c.in-Ok-Nowhere.is ∙ ap (λ w. Ok w) c.in-Ok-Nowhere.field-0-is) c.writing_of.ensures.writes

pub returns-clause-asks : goal.returns-clause-asks
returns-clause-asks g c = not_begun c.args.path.now _ c.writing_of.result c.in-Err.field-0 _ _ c.in-Err.is c.writing_of.ensures.writes
