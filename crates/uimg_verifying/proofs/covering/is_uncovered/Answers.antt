use Rattle.std.proofs.Common.{◌∙◌, ap, sym, not}
use Rattle.uimg_blob_reading.specs.{Indexed.IsRow, Rows.table, declared.roles.Role.Role}
use Rattle.uimg_verifying.specs.Covering.{is_covered, uncovered_as}
use Rattle.uimg_verifying.proofs.CoveringLaws.{no_image}
use Rattle.uimg_verifying.proofs.covering.is_uncovered.Goals as goal

pub returns-in_ok-is_covered-in-Image-clause-told : goal.returns-in_ok-is_covered-in-Image-clause-told
returns-in_ok-is_covered-in-Image-clause-told g c = λ t o row at.
    let file = (g.S.Source.device c.args.source.now).bytes in
    let r : IsRow c.args.blob.now c.args.room.now.entries c.args.node row = record { nodes = t; indexed = o.read.indexed; is = at } in
    ap not (c.in_ok-is_covered-in-Image.ensures.told t o row at)
    ∙ ap (λ (role : Role). uncovered_as role (is_covered file (table t) row)) (sym c.in-Image.is ∙ c.role.ensures row r)

pub returns-in_default-clause-told : goal.returns-in_default-clause-told
returns-in_default-clause-told g c = λ t o row at.
    let file = (g.S.Source.device c.args.source.now).bytes in
    let r : IsRow c.args.blob.now c.args.room.now.entries c.args.node row = record { nodes = t; indexed = o.read.indexed; is = at } in
    no_image row.role (is_covered file (table t) row) (λ same. c.in_default.not-Image (c.role.ensures row r ∙ same))
