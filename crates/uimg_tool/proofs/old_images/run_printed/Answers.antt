use Rattle.std.proofs.Common.{◌∙◌, ap}
use Rattle.std.specs.Io.Buffered.{writer_contents}
use Rattle.uimg_tool.specs.{Statuses.end_status}
use Rattle.uimg_tool.proofs.OldImageLaws.{printed, quiet}
use Rattle.uimg_tool.proofs.old_images.run_printed.Goals as goal

pub returns-clause-told : goal.returns-clause-told
returns-clause-told g c = λ honest.
    printed c.args.is_quiet c.args.request.now (g.D.World.map c.args.world.now) (g.D.World.trace c.args.world.now) (g.D.World.trace c.run_image-out.new.world) c.args.request.now.outfile c.run_image-out.result.0 c.flush.result c.tell_end-2.result _ _ _
    c.if-is_quiet.false c.requires (c.tell_end-2.ensures.status ∙ ap end_status c.told.ensures) c.flush.ensures.bytes (c.run_image-out.ensures.means honest)

pub returns-then-is_quiet-clause-told : goal.returns-then-is_quiet-clause-told
returns-then-is_quiet-clause-told g c = λ honest.
    quiet c.args.is_quiet c.args.request.now (g.D.World.map c.args.world.now) (g.D.World.trace c.args.world.now) (g.D.World.trace c.run_image.new.world) c.args.request.now.outfile c.run_image.result.0 c.tell_end.result _ _ (writer_contents g.W.Write.contents c.args.out)
    c.if-is_quiet.true c.requires c.tell_end.ensures.status (c.run_image.ensures.means honest)
