use Rattle.std.proofs.Common.{◌∙◌, ap}
use Rattle.uimg_world.specs.Deeds.{changes}
use Rattle.uimg_tool.proofs.OldMakingLaws.{within_more}
use Rattle.uimg_tool.proofs.fit_program.make_auto.Goals as goal

pub returns-in-Ok-clause-made : goal.returns-in-Ok-clause-made
returns-in-Ok-clause-made g c =
    within_more c.auto_request.result.image.now c.args.request.now.outfile.now c.make_compiled.result (g.D.World.trace c.args.world.now) (g.D.World.trace c.reader.new.self) (g.D.World.trace c.make_compiled.new.world) (ap (λ b. b.now) c.auto_request.ensures) (ap changes c.reader.ensures.noted ∙ c.unread_file.ensures ∙ c.is_key.ensures.kept) c.make_compiled.ensures.made
