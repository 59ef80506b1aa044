use Rattle.std.proofs.Common.{List, ◌∷◌, ◌++◌, refl, ap, ap₂, ◌∙◌}
use Rattle.uimg_blob_reading.specs.{Indexed.IsRow, Properties.places_of}
use Rattle.uimg_fit_reading.proofs.OpenedLaws.{still}
use Rattle.uimg_info.specs.Statement.{Stated, all_stated}
use Rattle.uimg_info.specs.Statements.{node_alone, node_stated, payload_facts_of, properties_stated}
use Rattle.uimg_info.proofs.StatementLaws.{own_passed}
use Rattle.uimg_info.proofs.statements.node_statements.Goals as goal

pub returns-in_err-others-clause-told : goal.returns-in_err-others-clause-told
returns-in_err-others-clause-told g c = λ honest t is indexed totalsize row at.
    let d = g.S.Source.device c.args.source.now in
    let payload = c.in_ok-payload.ensures.leaves in
    let o = still payload.uses.same payload.room (record { honest = honest; read = record { is = is; indexed = indexed; totalsize = totalsize } }) in
    own_passed all_stated (node_stated d.bytes c.args.blob.now.totalsize c.args.path.now row) c.from_residual-in_err-others.result c.in_err-others.field-0.0 c.from_residual-in_err-others.ensures.1
    (c.in_err-others.ensures.told o.honest t o.read.is o.read.indexed o.read.totalsize row at)

pub returns-clause-told : goal.returns-clause-told
unfolding node_stated
returns-clause-told g c = λ honest t is indexed totalsize row at.
    let d = g.S.Source.device c.args.source.now in
    let path = c.args.path.now in
    let payload = c.in_ok-payload.ensures.leaves in
    let o = still payload.uses.same payload.room (record { honest = honest; read = record { is = is; indexed = indexed; totalsize = totalsize } }) in
    let r : IsRow c.args.blob.now c.args.room.now.entries c.args.node row = record { nodes = t; indexed = indexed; is = at } in
    c.in_ok-all.ensures
    ∙ ap₂ (λ (found others : List Stated). (node_alone path ∷ found) ++ others) (c.in_ok-payload.ensures.told honest row r)
    (c.in_ok-others.ensures.told o.honest t o.read.is o.read.indexed o.read.totalsize row at
    ∙ ap (λ (f : List _). properties_stated f path (payload_facts_of row) (places_of row)) payload.uses.same.bytes)
