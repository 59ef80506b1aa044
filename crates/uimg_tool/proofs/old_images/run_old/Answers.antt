use Rattle.std.proofs.Common.{List, Option, subst, sym}
use Rattle.std.specs.{Borrow.Bor, Io.Buffered.writer_contents, Prelude.IfSome}
use Rattle.uimg_tool.specs.OldImages.{AnswersOldExtraction}
use Rattle.uimg_tool.proofs.old_images.run_old.Goals as goal

pub returns-in-Some-clause-extracted : goal.returns-in-Some-clause-extracted
returns-in-Some-clause-extracted g c = λ honest.
    let known = writer_contents g.W.Write.contents c.args.out in
    subst (λ (o : Option (Bor (List _))). IfSome o (λ path. AnswersOldExtraction c.args.request.now path.now (g.D.World.map c.args.world.now) c.extract_old.result known known (g.D.World.trace c.args.world.now))) (sym c.in-Some.is)
    (c.extract_old.ensures.extracted honest known)
