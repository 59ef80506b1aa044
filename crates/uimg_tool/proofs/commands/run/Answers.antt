use Rattle.std.proofs.Common.{ℕ, List, Option, subst, subst₂, sym}
use Rattle.uimg_cli.specs.declared.command_line.Asked.{Asked}
use Rattle.uimg_tool.specs.{Answering.Comes, Checking.MeansCheck, Commands.Means, FaultTexts.told_of_complaint, Statuses.closing_status}
use Rattle.uimg_tool.proofs.commands.run.Goals as goal

pub returns-in-Check-clause-means : goal.returns-in-Check-clause-means
returns-in-Check-clause-means g c = λ honest.
    subst (λ (asked : Asked). Comes (Means g.D.Shelf.Kept.Source.device (g.D.MakingWorld.identities c.args.world.now) asked (g.D.World.map c.args.world.now) (g.D.World.trace c.args.world.now) (g.D.World.trace c.check_images-end.new.world))
    (closing_status c.told-in-Check.result) (told_of_complaint c.told-in-Check.result) (g.W.Write.contents c.args.out) (g.W.Write.contents c.check_images-end.new.out)) (sym c.in-Check.is)
    (subst₂ (λ (status : ℕ) (told : Option (Option (List ℕ))). Comes (MeansCheck c.in-Check.request (g.D.World.map c.args.world.now) (g.D.World.trace c.args.world.now) (g.D.World.trace c.check_images-end.new.world))
    status told (g.W.Write.contents c.args.out) (g.W.Write.contents c.check_images-end.new.out)) (sym c.told-in-Check.ensures.status) (sym c.told-in-Check.ensures.told) c.check_images-end.ensures.means)

pub returns-in-Unpack-clause-means : goal.returns-in-Unpack-clause-means
returns-in-Unpack-clause-means g c = λ honest.
    subst (λ (asked : Asked). Comes (Means g.D.Shelf.Kept.Source.device (g.D.MakingWorld.identities c.args.world.now) asked (g.D.World.map c.args.world.now) (g.D.World.trace c.args.world.now) (g.D.World.trace c.unpack_image-end.new.world))
    (closing_status c.unpack_image-end.result) (told_of_complaint c.unpack_image-end.result) (g.W.Write.contents c.args.out) (g.W.Write.contents c.unpack_image-end.new.out)) (sym c.in-Unpack.is)
    (c.unpack_image-end.ensures.means honest (g.W.Write.contents c.args.out) (g.W.Write.contents c.unpack_image-end.new.out))
