use Rattle.std.proofs.Common.{Bool, IsTrue, inl, inr, subst, sym}
use Rattle.uimg_tool.proofs.ExtractLaws.{apart, over_image}
use Rattle.uimg_tool.proofs.images.extract.Goals as goal

pub returns-then-is_same_file-clause-means : goal.returns-then-is_same_file-clause-means
returns-then-is_same_file-clause-means g c = λ known honest is. over_image c.args.request.now c.args.path _ _ _ known c.if-is_same_file.ensures.compares

pub returns-in-Ok-clause-calls : goal.returns-in-Ok-clause-calls
returns-in-Ok-clause-calls g c = inr (_, c.if-is_same_file.ensures.compares, inr (_, c.in-Ok.ensures.noted, c.extract_to.ensures.closes))

pub returns-in-Ok-clause-means : goal.returns-in-Ok-clause-means
returns-in-Ok-clause-means g c = λ known honest is.
    apart c.args.request.now c.args.path _ _ _ _ _ known
    (c.extract_to.ensures.means known (g.D.World.known _ honest) (c.in-Ok.ensures.empty (subst (λ (b : Bool). IsTrue b) (sym c.is_same_file.ensures.same.honest) honest)) is)

pub returns-in-Err-clause-calls : goal.returns-in-Err-clause-calls
returns-in-Err-clause-calls g c = inr (_, c.if-is_same_file.ensures.compares, inl (_, c.in-Err.ensures.noted))
