use Rattle.std.proofs.Common.{◌∙◌, ap, sym, List, ℕ, get_or}
use Rattle.uimg_blob_reading.specs.Roles.{is_signature_role}
use Rattle.uimg_blob_reading.proofs.LookLaws.{row_entry, not_signature}
use Rattle.uimg_blob_reading.proofs.nodes.Blob.is_signature.Goals as goal

pub returns-in-Signature : goal.returns-in-Signature
returns-in-Signature g c row h =
    let r = row_entry c.args.self.now c.args.room.now.entries c.args.node row c.entry.result h c.entry.ensures in
    ap is_signature_role (sym c.in-Signature.is ∙ c.role_in.ensures row.role (ap (λ (x : List ℕ). get_or x 3 0) r.1))

pub returns-in_default : goal.returns-in_default
returns-in_default g c row h =
    let r = row_entry c.args.self.now c.args.room.now.entries c.args.node row c.entry.result h c.entry.ensures in
    let is = c.role_in.ensures row.role (ap (λ (x : List ℕ). get_or x 3 0) r.1) in
    not_signature row.role (λ same. c.in_default.not-Signature (is ∙ same))
