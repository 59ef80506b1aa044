use Rattle.std.proofs.Common.{◌≡◌, ◌∙◌, Some, sym, refl, arith, rules}
use Rattle.uimg_blob_reading.specs.Rows.{table}
use Rattle.uimg_signing.proofs.{NamedLaws.{row_of, rows_count}, SignatureNodeLaws.{around_some, past_none}}
use Rattle.uimg_signing.proofs.configuration_signatures.configuration_around.Goals as goal

pub returns-then-parent-count-clause-told : goal.returns-then-parent-count-clause-told
returns-then-parent-count-clause-told g c = λ t indexed.
    let some : c.args.parent ≡ Some c.in_ok-parent.parent = search rules in
    around_some (table t) c.args.parent c.in_ok-parent.parent _ _ some (past_none (table t) c.in_ok-parent.parent (omega (arith, rows_count t c.args.blob.now c.args.room.now.entries indexed))) refl

pub returns-then-is_configuration-clause-told : goal.returns-then-is_configuration-clause-told
returns-then-is_configuration-clause-told g c = λ t indexed.
    let some : c.args.parent ≡ Some c.in_ok-parent.parent = search rules in
    let r = row_of t c.args.blob.now c.args.room.now.entries c.in_ok-parent.parent indexed (omega arith) in
    around_some (table t) c.args.parent c.in_ok-parent.parent _ _ some r.1 (sym (c.is_configuration.ensures r.0 (record { nodes = t; indexed = indexed; is = r.1 })) ∙ c.if-is_configuration.true)
