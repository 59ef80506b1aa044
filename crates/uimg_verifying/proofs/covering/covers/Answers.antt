use Rattle.std.proofs.Common.{◌∙◌, ap, sym}
use Rattle.uimg_blob_reading.specs.{Indexed.IsRow, declared.roles.Role.Role}
use Rattle.uimg_signing.specs.ImageNaming.{names_image}
use Rattle.uimg_verifying.specs.Covering.{covers_as}
use Rattle.uimg_verifying.proofs.CoveringLaws.{not_covering}
use Rattle.uimg_verifying.proofs.covering.covers.Goals as goal

pub returns-in-Ok-clause-told : goal.returns-in-Ok-clause-told
returns-in-Ok-clause-told g c = λ t o its row at other.
    let file = (g.S.Source.device c.args.source.now).bytes in
    let r : IsRow c.args.blob.now c.args.room.now.entries c.args.node row = record { nodes = t; indexed = o.read.indexed; is = other } in
    c.in-Ok.ensures.told o.honest t o.read.is o.read.indexed o.read.totalsize row other its at
    ∙ ap (λ (role : Role). covers_as role (names_image file row its)) (sym c.in-Configuration.is ∙ c.role.ensures row r)

pub returns-in_default-clause-told : goal.returns-in_default-clause-told
returns-in_default-clause-told g c = λ t o its row at other.
    let file = (g.S.Source.device c.args.source.now).bytes in
    let r : IsRow c.args.blob.now c.args.room.now.entries c.args.node row = record { nodes = t; indexed = o.read.indexed; is = other } in
    not_covering row.role (names_image file row its) (λ same. c.in_default.not-Configuration (c.role.ensures row r ∙ same))
