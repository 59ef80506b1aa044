use Rattle.std.proofs.Common.{Ok, ◌∙◌, ap}
use Rattle.uimg_tool.proofs.DrawingLaws.{writes_as}
use Rattle.uimg_tool.proofs.OldMakingLaws.{not_begun, not_created, not_to_pipe}
use Rattle.uimg_tool.proofs.StatusLaws.{failed}
use Rattle.uimg_tool.specs.declared.safe_path.Writing.TheVariants as writing
use Rattle.uimg_tool.proofs.writing.begin_image.Goals as goal

pub returns-in-Ok-Pipe-clause-begins : goal.returns-in-Ok-Pipe-clause-begins
returns-in-Ok-Pipe-clause-begins g c =
    not_to_pipe c.args.path.now _ c.writing_of.result _ _ (c.in-Ok-Pipe.is ∙ ap (λ w. Ok w) c.in-Ok-Pipe.field-0-is) c.writing_of.ensures.writes (failed _ c.tell.ensures.status)

pub returns-in-Ok-Nowhere-clause-begins : goal.returns-in-Ok-Nowhere-clause-begins
returns-in-Ok-Nowhere-clause-begins g c =
    not_created c.args.path.now _ c.writing_of.result c.in-Ok-Nowhere.reason _ _ (c.in-Ok-Nowhere.is ∙ ap (λ w. Ok w) c.in-Ok-Nowhere.field-0-is) c.writing_of.ensures.writes (failed _ c.tell_unwritten.ensures.status)

pub returns-in-Err-clause-begins : goal.returns-in-Err-clause-begins
returns-in-Err-clause-begins g c =
    not_begun c.args.path.now _ c.writing_of.result c.in-Err.field-0 _ _ c.in-Err.is c.writing_of.ensures.writes (failed _ c.tell_no_memory.ensures.status)

pub returns-in-Ok-InPlace-clause-begins : goal.returns-in-Ok-InPlace-clause-begins
returns-in-Ok-InPlace-clause-begins g c =
    writes_as c.args.path.now c.writing_of.result (Ok writing.InPlace) _ _ (c.in-Ok-InPlace.is ∙ ap (λ w. Ok w) c.in-Ok-InPlace.field-0-is) c.writing_of.ensures.writes
