use Rattle.std.proofs.Common.{◌∙◌, ap, sym}
use Rattle.uimg_blob_reading.specs.Indexed.{IsRow}
use Rattle.uimg_verifying.specs.Configurations.{is_configuration}
use Rattle.uimg_verifying.proofs.ConfigurationLaws.{not_configuration}
use Rattle.uimg_verifying.proofs.configurations.is_configuration.Goals as goal

pub returns-in-Configuration : goal.returns-in-Configuration
returns-in-Configuration g c = λ t indexed row at.
    let r : IsRow c.args.blob.now c.args.room.now.entries c.args.node row = record { nodes = t; indexed = indexed; is = at } in
    ap is_configuration (sym c.in-Configuration.is ∙ c.role.ensures row r)

pub returns-in_default : goal.returns-in_default
returns-in_default g c = λ t indexed row at.
    let r : IsRow c.args.blob.now c.args.room.now.entries c.args.node row = record { nodes = t; indexed = indexed; is = at } in
    not_configuration c.role.result c.in_default.not-Configuration ∙ ap is_configuration (c.role.ensures row r)
