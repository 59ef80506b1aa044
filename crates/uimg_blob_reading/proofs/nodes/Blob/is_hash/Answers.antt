use Rattle.std.proofs.Common.{◌∙◌, ap, sym, List, ℕ, get_or}
use Rattle.uimg_blob_reading.specs.Roles.{is_hash_role}
use Rattle.uimg_blob_reading.proofs.LookLaws.{row_entry, not_hash}
use Rattle.uimg_blob_reading.proofs.nodes.Blob.is_hash.Goals as goal

pub returns-in-Hash : goal.returns-in-Hash
returns-in-Hash g c row h =
    let r = row_entry c.args.self.now c.args.room.now.entries c.args.node row c.entry.result h c.entry.ensures in
    ap is_hash_role (sym c.in-Hash.is ∙ c.role_in.ensures row.role (ap (λ (x : List ℕ). get_or x 3 0) r.1))

pub returns-in_default : goal.returns-in_default
returns-in_default g c row h =
    let r = row_entry c.args.self.now c.args.room.now.entries c.args.node row c.entry.result h c.entry.ensures in
    let is = c.role_in.ensures row.role (ap (λ (x : List ℕ). get_or x 3 0) r.1) in
    not_hash row.role (λ hash. c.in_default.not-Hash (is ∙ hash))
