use Rattle.std.proofs.Common.{◌∙◌, sym, ap}
use Rattle.uimg_blob_reading.specs.Indexed.{IsRow}
use Rattle.uimg_keys.specs.Trees.{is_parent}
use Rattle.uimg_keys.proofs.TreeLaws.{in_table, not_child}
use Rattle.uimg_keys.proofs.trees.is_signature.Goals as goal

pub returns-then-not-is_parent : goal.returns-then-not-is_parent
returns-then-not-is_parent c = λ row at.
    let index = c.requires.index in
    let r : IsRow c.args.blob.now c.args.room.now.entries c.args.node row = record { nodes = index.nodes; indexed = index.indexed; is = in_table c.args.file.now c.args.blob.now c.args.room.now.entries c.args.node row index at } in
    not_child c.args.file.now row (ap (is_parent 0) (sym (c.parent.ensures row r)) ∙ sym c.is_parent.ensures ∙ c.if-not-is_parent.true)
