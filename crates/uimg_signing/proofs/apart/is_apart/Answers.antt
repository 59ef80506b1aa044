use Rattle.std.proofs.Common.{◌∙◌, sym, arith}
use Rattle.uimg_blob_reading.specs.Rows.{table}
use Rattle.uimg_signing.proofs.ApartLaws.{listed_itself, without_parent, with_parent}
use Rattle.uimg_signing.proofs.NamedLaws.{row_of, rows_count}
use Rattle.uimg_signing.proofs.ShortLaws.{parent_within}
use Rattle.uimg_signing.proofs.apart.is_apart.Goals as goal

pub returns-then-is_marked : goal.returns-then-is_marked
returns-then-is_marked g c = λ t indexed row at.
    listed_itself c.args.marks.now (table t) row (sym (c.if-is_marked.ensures row (record { nodes = t; indexed = indexed; is = at })))

pub returns-in_default : goal.returns-in_default
returns-in_default g c = λ t indexed row at.
    without_parent c.args.marks.now (table t) row (sym (c.if-is_marked.ensures row (record { nodes = t; indexed = indexed; is = at })))
    (sym (c.parent.ensures row (record { nodes = t; indexed = indexed; is = at })) ∙ c.in_default.is)

pub returns-then-parent-count : goal.returns-then-parent-count
returns-then-parent-count g c = λ t indexed row at.
    let its = c.parent.ensures row (record { nodes = t; indexed = indexed; is = at }) in
    absurd (omega (arith, parent_within t c.args.node c.in-Some.parent row at (sym its ∙ c.in-Some.is), rows_count t c.args.blob.now c.args.room.now.entries indexed))

pub returns : goal.returns
returns g c = λ t indexed row at.
    let its = c.parent.ensures row (record { nodes = t; indexed = indexed; is = at }) in
    let parent = row_of t c.args.blob.now c.args.room.now.entries c.in-Some.parent indexed (omega arith) in
    c.is_marked-2.ensures parent.0 (record { nodes = t; indexed = indexed; is = parent.1 })
    ∙ with_parent c.args.marks.now (table t) row (sym (c.if-is_marked.ensures row (record { nodes = t; indexed = indexed; is = at }))) c.in-Some.parent parent.0 (sym its ∙ c.in-Some.is) parent.1
