use Rattle.std.proofs.Common.{rules, ◌≡◌, ◌∙◌, ℕ, suc, ◌+◌, List, drop, length, ap, sym, subst, arith}
use Rattle.std.proofs.Math.ListN.{drop_of_length-le}
use Rattle.std.specs.List.{list_any}
use Rattle.uimg_base.specs.Held.{Held}
use Rattle.uimg_blob_reading.specs.Rows.{table}
use Rattle.uimg_fit_reading.proofs.OpenedLaws.{still}
use Rattle.uimg_signing.proofs.{HashedLaws.{any_found, any_more, any_none}, NamedLaws.{row_of, rows_count}}
use Rattle.uimg_verifying.specs.Covering.{covers, is_covered}
use Rattle.uimg_verifying.proofs.RefusalLaws.{over}
use Rattle.uimg_verifying.proofs.covering.is_covered.Goals as goal

pub returns-then-is_named-clause-told : goal.returns-then-is_named-clause-told
returns-then-is_named-clause-told g c = λ t o row at.
    let d = g.S.Source.device c.args.source.now in
    let e = g.S.Source.device c.loop-node.source in
    let now = c.loop-node in
    let o1 = still now.invariant.uses.same now.invariant.room o in
    let r = row_of t c.args.blob.now c.args.room.now.entries now.node o.read.indexed (search rules) in
    let is = over d e (λ (file : List ℕ). c.in_ok-is_named.is_named ≡ covers file row r.0) now.invariant.uses.same (c.in_ok-is_named.ensures.told t o1 row r.0 at r.1) in
    any_found (covers d.bytes row) r.0 (drop (suc now.node) (table t)) (drop now.node (table t)) (is_covered d.bytes (table t) row) r.2 (sym c.if-is_named.true ∙ is) (now.invariant.left t o row at)

pub loop-node-preserved : goal.loop-node-preserved
loop-node-preserved g c = record {
  uses = search rules;
  room = search rules;
  left = λ t o row at.
      let d = g.S.Source.device c.args.source.now in
      let e = g.S.Source.device c.loop-node.source in
      let now = c.loop-node in
      let o1 = still now.invariant.uses.same now.invariant.room o in
      let r = row_of t c.args.blob.now c.args.room.now.entries now.node o.read.indexed (search rules) in
      let is = over d e (λ (file : List ℕ). c.in_ok-is_named.is_named ≡ covers file row r.0) now.invariant.uses.same (c.in_ok-is_named.ensures.told t o1 row r.0 at r.1) in
      let one_more : suc now.node ≡ now.node + 1 = omega arith in
      subst (λ (n : ℕ). list_any (covers d.bytes row) (drop n (table t)) ≡ is_covered d.bytes (table t) row) one_more
      (any_more (covers d.bytes row) r.0 (drop (suc now.node) (table t)) (drop now.node (table t)) (is_covered d.bytes (table t) row) r.2 (sym c.if-is_named.false ∙ is) (now.invariant.left t o row at));
}

pub returns-clause-told : goal.returns-clause-told
returns-clause-told g c = λ t o row at.
    let d = g.S.Source.device c.args.source.now in
    let now = c.loop-node in
    any_none (covers d.bytes row) (drop now.node (table t)) (is_covered d.bytes (table t) row)
    (drop_of_length-le (table t) {i = now.node} (omega (arith, rows_count t c.args.blob.now c.args.room.now.entries o.read.indexed, c.loop-node-test.false, ap (λ (h : Held). length h.entries) now.invariant.room)))
    (now.invariant.left t o row at)
