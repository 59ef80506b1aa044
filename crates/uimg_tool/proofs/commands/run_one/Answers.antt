use Rattle.std.proofs.Common.{ap, sym, subst}
use Rattle.uimg_base.specs.Sink.{Sink}
use Rattle.uimg_cli.specs.declared.command_line.Request.{Request}
use Rattle.uimg_tool.specs.{Answering.Comes, Commands.MeansOne, FaultTexts.told_of_exit, Statuses.exit_status}
use Rattle.uimg_tool.proofs.MadeLaws.{made_comes}
use Rattle.uimg_tool.proofs.commands.run_one.Goals as goal

pub returns-in-Make-clause-means : goal.returns-in-Make-clause-means
returns-in-Make-clause-means g c = λ honest.
    subst (λ (asked : Request). Comes (MeansOne g.D.Shelf.Kept.Source.device (g.D.MakingWorld.identities c.args.world.now) asked (g.D.World.map c.args.world.now) (g.D.World.trace c.args.world.now) (g.D.World.trace c.make_in-end.new.world))
    (exit_status c.exit_of-in-Make.result) (told_of_exit c.exit_of-in-Make.result) (g.W.Write.contents c.args.out) (g.W.Write.contents c.into_inner.result)) (sym c.in-Make.is)
    (made_comes g.D.Shelf.Kept.Source.device (g.D.MakingWorld.identities c.args.world.now) c.in-Make.request (g.D.World.map c.args.world.now) c.make_in-end.result c.new-listing.result c.make_in-end.new.out _ _ _ _
    (ap (λ (s : Sink). s.contents) c.new-listing.ensures) c.into_inner.ensures c.exit_of-in-Make.ensures.status c.exit_of-in-Make.ensures.told (c.make_in-end.ensures.told honest))
