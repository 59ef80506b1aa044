use Rattle.std.proofs.Common.{◌∙◌, refl}
use Rattle.uimg_tool.proofs.OldMakingLaws.{within_more}
use Rattle.uimg_tool.proofs.fit_program.make_fit.Goals as goal

pub returns-in-Ok-clause-made : goal.returns-in-Ok-clause-made
returns-in-Ok-clause-made g c =
    within_more c.args.request.now.outfile.now c.args.request.now.outfile.now c.make_of_text.result (g.D.World.trace c.args.world.now) (g.D.World.trace c.read_source.new.world) (g.D.World.trace c.make_of_text.new.world) refl (c.read_source.ensures.kept ∙ c.is_key.ensures.kept) c.make_of_text.ensures.made
