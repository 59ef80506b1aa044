use Rattle.std.proofs.Common.{◌∙◌, sym, ap}
use Rattle.uimg_blob_reading.specs.declared.roles.Role.TheVariants as role
use Rattle.uimg_blob_reading.specs.Roles.{is_hash_role}
use Rattle.uimg_blob_reading.proofs.LookLaws.{not_hash}
use Rattle.uimg_signing.specs.Hashed.{is_parent}
use Rattle.uimg_signing.proofs.HashedLaws.{hash_by_role, not_hash_of}
use Rattle.uimg_signing.proofs.hashed.is_hash_of.Goals as goal

pub returns-in-Hash : goal.returns-in-Hash
returns-in-Hash g c = λ row r.
    c.is_parent.ensures ∙ ap (is_parent c.args.image) (c.parent.ensures row r)
    ∙ hash_by_role role.Hash row.role c.args.image row.parent (sym c.in-Hash.is ∙ c.role.ensures row r)

pub returns-in_default : goal.returns-in_default
returns-in_default g c = λ row r.
    not_hash_of (is_hash_role row.role) c.args.image row.parent (not_hash c.role.result c.in_default.not-Hash ∙ ap is_hash_role (c.role.ensures row r))
