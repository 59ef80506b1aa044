use Rattle.std.proofs.Common.{rules, ◌≡◌, ◌∙◌, ℕ, suc, ◌+◌, List, Some, drop, length, ap, sym, subst, arith}
use Rattle.std.proofs.Math.ListN.{drop_of_length-le}
use Rattle.uimg_base.specs.Held.{Held}
use Rattle.uimg_blob_reading.specs.Rows.{table}
use Rattle.uimg_fit_reading.proofs.OpenedLaws.{still}
use Rattle.uimg_signing.specs.Listing.{name_in}
use Rattle.uimg_signing.proofs.NamedLaws.{row_of, rows_count}
use Rattle.uimg_strict.specs.{Telling.read_loose}
use Rattle.uimg_strict.specs.declared.loose.Looseness.TheVariants.{Unsigned}
use Rattle.uimg_verifying.specs.Covering.{is_uncovered, uncovered_from}
use Rattle.uimg_verifying.proofs.{CoveringLaws.{none_uncovered, uncovered_here, uncovered_more}, RefusalLaws.over}
use Rattle.uimg_verifying.proofs.covering.first_uncovered.Goals as goal

pub returns-then-is_it-clause-told : goal.returns-then-is_it-clause-told
returns-then-is_it-clause-told g c = λ t o.
    let d = g.S.Source.device c.args.source.now in
    let e = g.S.Source.device c.loop-node.source in
    let f = g.S.Source.device c.is_uncovered.new.source in
    let now = c.loop-node in
    let o1 = still now.invariant.uses.same now.invariant.room o in
    let o2 = still c.in_ok-is_it.ensures.uses.same c.in_ok-is_it.ensures.room o1 in
    let r = row_of t c.args.blob.now c.args.room.now.entries now.node o.read.indexed (search rules) in
    let is = over d e (λ (file : List ℕ). c.in_ok-is_it.is_it ≡ is_uncovered file (table t) r.0) now.invariant.uses.same (c.in_ok-is_it.ensures.told t o1 r.0 r.1) in
    let loose = read_loose c.in_ok-found.found in
    let said = λ (file : List ℕ). loose ≡ record { why = Unsigned; node = Some (name_in file r.0) } in
    let what = over d e said now.invariant.uses.same (over e f said c.in_ok-is_it.ensures.uses.same (c.in_ok-found.ensures.told o2.honest t o2.read.indexed r.0 r.1)) in
    uncovered_here d.bytes (table t) (drop (suc now.node) (table t)) (drop now.node (table t)) r.0 r.2 c.in_ok-is_it.is_it is c.if-is_it.true loose what
    ∙ now.invariant.left t o

pub loop-node-preserved : goal.loop-node-preserved
loop-node-preserved g c = record {
  uses = search rules;
  room = search rules;
  left = λ t o.
      let d = g.S.Source.device c.args.source.now in
      let e = g.S.Source.device c.loop-node.source in
      let now = c.loop-node in
      let o1 = still now.invariant.uses.same now.invariant.room o in
      let r = row_of t c.args.blob.now c.args.room.now.entries now.node o.read.indexed (search rules) in
      let is = over d e (λ (file : List ℕ). c.in_ok-is_it.is_it ≡ is_uncovered file (table t) r.0) now.invariant.uses.same (c.in_ok-is_it.ensures.told t o1 r.0 r.1) in
      let one_more : suc now.node ≡ now.node + 1 = omega arith in
      subst (λ (n : ℕ). uncovered_from d.bytes (table t) (drop n (table t)) ≡ uncovered_from d.bytes (table t) (table t)) one_more
      (uncovered_more d.bytes (table t) (drop (suc now.node) (table t)) (drop now.node (table t)) r.0 r.2 c.in_ok-is_it.is_it is c.if-is_it.false ∙ now.invariant.left t o);
}

pub returns-clause-told : goal.returns-clause-told
returns-clause-told g c = λ t o.
    let d = g.S.Source.device c.args.source.now in
    let now = c.loop-node in
    none_uncovered d.bytes (table t) (drop now.node (table t))
    (drop_of_length-le (table t) {i = now.node} (omega (arith, rows_count t c.args.blob.now c.args.room.now.entries o.read.indexed, c.loop-node-test.false, ap (λ (h : Held). length h.entries) now.invariant.room)))
    ∙ now.invariant.left t o
