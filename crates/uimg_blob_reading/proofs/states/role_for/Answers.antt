use Rattle.std.{proofs.Common.{ap, Bool, ◌∙◌}, specs.Option.is_some}
use Rattle.uimg_blob_reading.specs.{Roles.role_at, Passes.child_level}
use Rattle.uimg_blob_reading.proofs.PassLaws.{root_in, child_in}
use Rattle.uimg_blob_reading.proofs.states.role_for.Goals as goal

pub returns-in-None : goal.returns-in-None
returns-in-None g c p name h label = root_in p c.args.state c.args.room.now.entries name h c.in-None.is

pub returns-in-Some : goal.returns-in-Some
returns-in-Some g c p name h label =
    child_in p c.args.state c.in-Some.parent name c.child_role.result c.role_in-role.result c.args.room.now.entries c.entry.result h c.in-Some.is c.entry.ensures c.role_in-role.ensures
    (c.child_role.ensures name label
    ∙ ap (λ (b : Bool). role_at (child_level c.role_in-role.result b c.is_some-had_configurations.result) name) c.is_some-had_images.ensures
    ∙ ap (λ (b : Bool). role_at (child_level c.role_in-role.result (is_some c.args.state.images) b) name) c.is_some-had_configurations.ensures)
