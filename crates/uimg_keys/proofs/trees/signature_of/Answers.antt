use Rattle.std.proofs.Common.{◌≡◌, ◌∙◌, ◌+◌, suc, ℕ, drop, length, sym, subst, arith}
use Rattle.uimg_keys.specs.Trees.{rows_of, signature_from, signature_of}
use Rattle.uimg_keys.proofs.TreeLaws.{drop_end, row_of, rows_count, signature_found, signature_more, signature_none}
use Rattle.uimg_keys.proofs.trees.signature_of.Goals as goal

pub returns-then-is_signature-clause-told : goal.returns-then-is_signature-clause-told
returns-then-is_signature-clause-told c =
    let file = c.args.file.now in
    let i = c.loop-node.node in
    let r = row_of file c.args.blob.now c.args.room.now.entries i c.requires (omega arith) in
    signature_found file i r.0 (drop (suc i) (rows_of file)) (drop i (rows_of file)) (signature_of file) r.2 (sym (c.is_signature.ensures r.0 r.1) ∙ c.if-is_signature.true) c.loop-node.invariant

pub loop-node-preserved : goal.loop-node-preserved
loop-node-preserved c =
    let file = c.args.file.now in
    let i = c.loop-node.node in
    let r = row_of file c.args.blob.now c.args.room.now.entries i c.requires (omega arith) in
    let next : suc i ≡ i + 1 = omega arith in
    subst (λ (n : ℕ). signature_from file (i + 1) (drop n (rows_of file)) ≡ signature_of file) next
    (signature_more file i r.0 (drop (suc i) (rows_of file)) (drop i (rows_of file)) (signature_of file) r.2 (sym (c.is_signature.ensures r.0 r.1) ∙ c.if-is_signature.false) c.loop-node.invariant)

pub returns-clause-told : goal.returns-clause-told
returns-clause-told c =
    let file = c.args.file.now in
    let i = c.loop-node.node in
    signature_none file i (drop i (rows_of file)) (signature_of file) (drop_end (rows_of file) i (omega (arith, rows_count file c.args.blob.now c.args.room.now.entries c.requires))) c.loop-node.invariant
