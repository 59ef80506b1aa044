use Rattle.std.proofs.Common.{List, Option, Bool, IsTrue, inr, subst, sym}
use Rattle.std.specs.Borrow.{Bor}
use Rattle.uimg_tool.specs.{Answering.Comes, FaultTexts.told_of_end, Statuses.end_status}
use Rattle.uimg_tool.specs.Images.{CallsToRun, MeansRun, WritesApart}
use Rattle.uimg_world.specs.Deeds.{Deed}
use Rattle.uimg_tool.proofs.ExtractLaws.{written}
use Rattle.uimg_tool.proofs.images.run_image.Goals as goal

pub returns-clause-calls : goal.returns-clause-calls
returns-clause-calls g c =
    subst (λ (o : Option (Bor (List _))). CallsToRun c.args.request.now o (g.D.World.trace c.args.world.now) (g.D.World.trace c.extract.new.world)) (sym c.in-Some.is)
    (inr (subst (λ (t : List Deed). WritesApart c.args.request.now.image.now c.in-Some.path.now t (g.D.World.trace c.extract.new.world)) c.in-Ok.ensures.noted c.extract.ensures.calls))

pub returns-clause-means : goal.returns-clause-means
returns-clause-means g c = λ honest.
    let known = g.W.Write.contents c.args.out in
    subst (λ (o : Option (Bor (List _))). Comes (MeansRun c.args.request.now o (g.D.World.map c.args.world.now) (g.D.World.trace c.args.world.now) (g.D.World.trace c.extract.new.world)) (end_status c.extract.result) (told_of_end c.extract.result) known known) (sym c.in-Some.is)
    (written (g.D.World.map c.args.world.now) c.args.request.now c.in-Some.path _ _ _ _ _ _ known honest c.in-Ok.ensures.opened c.in-Ok.ensures.noted
    (c.extract.ensures.means known (subst (λ (b : Bool). IsTrue b) (sym c.in-Ok.ensures.same.honest) honest)))
