use Rattle.std.proofs.Common.{List, inl, rules, subst}
use Rattle.uimg_tool.specs.Drawing.{Fills}
use Rattle.uimg_tool.proofs.ReportLaws.{fills}
use Rattle.uimg_world.specs.Deeds.{Deed, answer_of}
use Rattle.uimg_tool.proofs.reports.write_in_place.Goals as goal

pub returns-in-Ok-fill-clause-asks : goal.returns-in-Ok-fill-clause-asks
returns-in-Ok-fill-clause-asks g c =
    (answer_of c.create.result, subst (λ (t : List Deed). Fills c.args.path.now t (g.D.World.trace c.fill.new.world)) c.create.ensures.noted (fills _ _ _ _ _ _ _ c.fill.ensures.fills))

pub returns-in-Err-clause-asks : goal.returns-in-Err-clause-asks
returns-in-Err-clause-asks g c = (answer_of c.create.result, inl (search rules))
