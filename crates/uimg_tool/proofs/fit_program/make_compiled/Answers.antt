use Rattle.std.proofs.Common.{◌∙◌, refl}
use Rattle.uimg_tool.proofs.{OldMakingLaws.within, SpelledLaws.keeps_filled}
use Rattle.uimg_tool.proofs.fit_program.make_compiled.Goals as goal

pub returns-in-Ok-clause-made : goal.returns-in-Ok-clause-made
returns-in-Ok-clause-made g c =
    within c.args.making.image.now c.args.making.image.now c.write_image.result (g.D.World.trace c.args.world.now) (g.D.World.trace c.args.world.now) (g.D.World.trace c.write_image.new.world) refl refl c.write_image.ensures.made

pub returns-in-Ok-clause-kept : goal.returns-in-Ok-clause-kept
returns-in-Ok-clause-kept g c = λ knows bare done honest kept.
    keeps_filled _ _ _ c.args.making.manner.time _ _ _ _ c.in-Ok.ensures.files.same (c.in-Ok.ensures.filled honest kept) (c.as_slice.ensures.value ∙ bare) (c.write_image.ensures.kept knows done) honest
