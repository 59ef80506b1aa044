use Rattle.std.proofs.Common.{◌∙◌, Bool, false, if◌then◌else◌, ap, sym}
use Rattle.uimg_blob_reading.specs.{Indexed.IsRow, Roles.is_signature_role, declared.roles.Role.Role}
use Rattle.uimg_blob_reading.proofs.LookLaws.{not_signature}
use Rattle.uimg_verifying.specs.Configurations.{is_parent}
use Rattle.uimg_verifying.proofs.configurations.is_signature_of.Goals as goal

pub returns-in-Signature : goal.returns-in-Signature
returns-in-Signature g c = λ t indexed row at.
    let r : IsRow c.args.blob.now c.args.room.now.entries c.args.at.node row = record { nodes = t; indexed = indexed; is = at } in
    c.is_parent.ensures ∙ ap (is_parent c.args.at.configuration) (c.parent.ensures row r)
    ∙ sym (ap (λ (role : Role). if is_signature_role role then is_parent c.args.at.configuration row.parent else false) (sym (c.role.ensures row r) ∙ c.in-Signature.is))

pub returns-in_default : goal.returns-in_default
returns-in_default g c = λ t indexed row at.
    let r : IsRow c.args.blob.now c.args.room.now.entries c.args.at.node row = record { nodes = t; indexed = indexed; is = at } in
    ap (λ (b : Bool). if b then is_parent c.args.at.configuration row.parent else false) (not_signature c.role.result c.in_default.not-Signature ∙ ap is_signature_role (c.role.ensures row r))
