use Rattle.std.proofs.Common.{◌∷◌, ap, inr, true}
use Rattle.uimg_world.specs.Deeds.{Opens, changes}
use Rattle.uimg_tool.proofs.{OldMakingLaws.within, TreeLaws.keeps_updated}
use Rattle.uimg_tool.proofs.update_program.update_image.Goals as goal

pub returns-in-Ok-update-clause-made : goal.returns-in-Ok-update-clause-made
returns-in-Ok-update-clause-made g c =
    inr (within c.tree_request-making.result.image.now c.args.request.now.image.now c.write_image.result (Opens c.args.request.now.image.now true ∷ g.D.World.trace c.args.world.now) (g.D.World.trace c.open.new.self) (g.D.World.trace c.write_image.new.world)
    (ap (λ b. b.now) c.tree_request-making.ensures.made.1) (ap changes c.open.ensures.noted) c.write_image.ensures.made)

pub returns-in-Ok-update-clause-kept : goal.returns-in-Ok-update-clause-kept
returns-in-Ok-update-clause-kept g c = λ honest done.
    let opened = c.in-Ok.ensures.opened in
    let making = c.tree_request-making in
    keeps_updated _ _ c.args.request.now (g.D.World.map c.args.world.now) _ making.result _ _ _ _ c.time_of.result (opened.bytes honest) c.time_of.ensures (c.in-Ok-update.ensures.told (opened.honest honest)) making.ensures.reserved making.ensures.placed making.ensures.beside
    c.new-in-Ok-update.ensures (c.write_image.ensures.kept (g.D.World.known c.args.world.now honest) done)
