use Rattle.std.proofs.Common.{◌≡◌, ◌∙◌, ◌+◌, suc, ℕ, drop, length, sym, subst, arith}
use Rattle.std.specs.List.{list_any}
use Rattle.uimg_blob_reading.specs.Rows.{table}
use Rattle.uimg_signing.specs.Hashed.{has_hash, is_hash_of}
use Rattle.uimg_signing.proofs.{HashedLaws.{any_found, any_more, any_none}, LookLaws.drop_end, NamedLaws.{row_of, rows_count}}
use Rattle.uimg_signing.proofs.hashed.has_hash.Goals as goal

pub returns-then-is_hash_of : goal.returns-then-is_hash_of
returns-then-is_hash_of g c = λ t indexed.
    let i = c.loop-node.node in
    let r = row_of t c.args.blob.now c.args.room.now.entries i indexed (omega arith) in
    any_found (is_hash_of c.args.image) r.0 (drop (suc i) (table t)) (drop i (table t)) (has_hash (table t) c.args.image) r.2
    (sym c.if-is_hash_of.true ∙ c.is_hash_of.ensures r.0 (record { nodes = t; indexed = indexed; is = r.1 })) (c.loop-node.invariant t indexed)

pub loop-node-preserved : goal.loop-node-preserved
loop-node-preserved g c = λ t indexed.
    let i = c.loop-node.node in
    let r = row_of t c.args.blob.now c.args.room.now.entries i indexed (omega arith) in
    let next : suc i ≡ i + 1 = omega arith in
    subst (λ (n : ℕ). list_any (is_hash_of c.args.image) (drop n (table t)) ≡ has_hash (table t) c.args.image) next
    (any_more (is_hash_of c.args.image) r.0 (drop (suc i) (table t)) (drop i (table t)) (has_hash (table t) c.args.image) r.2
    (sym c.if-is_hash_of.false ∙ c.is_hash_of.ensures r.0 (record { nodes = t; indexed = indexed; is = r.1 })) (c.loop-node.invariant t indexed))

pub returns : goal.returns
returns g c = λ t indexed.
    let i = c.loop-node.node in
    any_none (is_hash_of c.args.image) (drop i (table t)) (has_hash (table t) c.args.image)
    (drop_end (table t) i (omega (arith, rows_count t c.args.blob.now c.args.room.now.entries indexed))) (c.loop-node.invariant t indexed)
