use Rattle.std.proofs.Common.{Ok, ◌∙◌, ap, is_ok}
use Rattle.uimg_tool.proofs.OldAnswerLaws.{is_new}
use Rattle.uimg_tool.proofs.OldImageLaws.{beside, in_place, placed, to_pipe}
use Rattle.uimg_tool.proofs.old_images.extract_old.Goals as goal

pub returns-in-Ok-InPlace-clause-extracted : goal.returns-in-Ok-InPlace-clause-extracted
returns-in-Ok-InPlace-clause-extracted g c = λ honest known.
    placed c.args.request.now c.args.path.now (g.D.World.map c.args.world.now) _ known (is_ok c.open-source.result) (g.D.World.trace c.args.world.now) _ (g.D.World.trace c.writing_of.new.world) c.open-source.ensures.noted
    (in_place c.args.path.now c.writing_of.result _ _ (c.in-Ok-InPlace.is ∙ ap (λ w. Ok w) c.in-Ok-InPlace.field-0-is) c.writing_of.ensures.writes)

pub returns-in-Ok-Pipe-clause-extracted : goal.returns-in-Ok-Pipe-clause-extracted
returns-in-Ok-Pipe-clause-extracted g c = λ honest known.
    placed c.args.request.now c.args.path.now (g.D.World.map c.args.world.now) _ known (is_ok c.open-source.result) (g.D.World.trace c.args.world.now) _ (g.D.World.trace c.writing_of.new.world) c.open-source.ensures.noted
    (to_pipe c.args.path.now c.writing_of.result _ _ (c.in-Ok-Pipe.is ∙ ap (λ w. Ok w) c.in-Ok-Pipe.field-0-is) c.writing_of.ensures.writes)

pub returns-in-Ok-Beside-clause-extracted : goal.returns-in-Ok-Beside-clause-extracted
returns-in-Ok-Beside-clause-extracted g c = λ honest known.
    beside g.D.Opened.Source.device c.args.request.now c.args.path.now _ _ (g.D.World.map c.args.world.now) c.open-source.result c.extract_beside-end.result c.tell_written.result known (g.D.World.trace c.args.world.now) honest c.open-source.ensures.opened
    (c.extract_beside-end.ensures.extracted known (g.D.World.known c.args.world.now honest)
    (is_new _ c.writing_of.result c.in-Ok-Beside.file c.in-Ok-Beside.beside (c.in-Ok-Beside.is ∙ ap (λ w. Ok w) c.in-Ok-Beside.field-0-is) (c.writing_of.ensures.empty (g.D.World.known c.args.world.now honest))))
    c.extract_beside-end.ensures.unread c.tell_written.ensures.status
