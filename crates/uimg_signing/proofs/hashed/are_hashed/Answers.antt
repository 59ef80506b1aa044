use Rattle.std.proofs.Common.{rules, ◌≡◌, ◌∙◌, ◌+◌, suc, ℕ, List, Bool, IsTrue, drop, length, map, ap, sym, subst, arith}
use Rattle.uimg_base.specs.Held.{Held}
use Rattle.uimg_blob_reading.specs.{Blob.tree, Indexed.IsIndexed, Places.read_place, Rows.table}
use Rattle.uimg_signing.specs.{Hashed.{are_hashed, hashed_as, hashed_from}, Listing.node_cost}
use Rattle.uimg_signing.proofs.{CostLaws.{more_asked, no_refusal}, HashedLaws.{bare, hashed_end, hashed_more}, LookLaws.drop_end, NamedLaws.{row_of, rows_count}}
use Rattle.uimg_signing.proofs.hashed.are_hashed.Goals as goal

pub returns-then-is_bare-clause-told : goal.returns-then-is_bare-clause-told
returns-then-is_bare-clause-told g c = λ honest t indexed.
    let d = g.S.Source.device c.args.source.now in
    let now = c.loop-node in
    let is_honest = subst (λ (b : Bool). IsTrue b) (sym now.invariant.same.honest) honest in
    let there = subst (λ (h : Held). IsIndexed t c.args.blob.now h.entries) (sym now.invariant.room) indexed in
    let own = map (read_place d.bytes) c.args.places.now in
    let r = row_of t c.args.blob.now c.args.room.now.entries now.node indexed (omega arith) in
    let is = c.in-Ok.ensures.told is_honest t there r.0 r.1 ∙ ap (λ (xs : List ℕ). hashed_as xs (map (read_place xs) c.args.places.now) (table t) now.node r.0) now.invariant.same.bytes in
    bare d.bytes own (table t) now.node r.0 (drop (suc now.node) (table t)) (drop now.node (table t)) now.has_any (are_hashed d.bytes own (table t)) r.2 c.in-Ok.found is (now.invariant.left honest t indexed)
    (sym c.if-is_bare.true ∙ c.is_bare.ensures)

pub returns-in-Err-clause-refused : goal.returns-in-Err-clause-refused
returns-in-Err-clause-refused g c = λ honest t is indexed.
    let now = c.loop-node in
    let is_honest = subst (λ (b : Bool). IsTrue b) (sym now.invariant.same.honest) honest in
    let there = subst (λ (h : Held). IsIndexed t c.args.blob.now h.entries) (sym now.invariant.room) indexed in
    let r = row_of t c.args.blob.now c.args.room.now.entries now.node indexed (omega arith) in
    no_refusal c.in-Err.fault _ (c.in-Err.ensures.refused is_honest t (ap tree now.invariant.same.bytes ∙ is) there r.0 r.1)

pub loop-node-preserved : goal.loop-node-preserved
loop-node-preserved g c =
    let d = g.S.Source.device c.args.source.now in
    let now = c.loop-node in
    let same = now.invariant.same in
    record {
      same = record { bytes = c.hashed_as.ensures.uses.same.bytes ∙ same.bytes; honest = c.hashed_as.ensures.uses.same.honest ∙ same.honest };
      failures = search rules;
      asked = more_asked d.asked (g.S.Source.device now.source).asked (g.S.Source.device c.hashed_as.new.source).asked now.node (node_cost (length c.args.places.now)) now.invariant.asked c.hashed_as.ensures.uses.asked;
      room = c.hashed_as.ensures.room ∙ now.invariant.room;
      within = omega arith;
      left = λ honest t indexed.
          let is_honest = subst (λ (b : Bool). IsTrue b) (sym same.honest) honest in
          let there = subst (λ (h : Held). IsIndexed t c.args.blob.now h.entries) (sym now.invariant.room) indexed in
          let own = map (read_place d.bytes) c.args.places.now in
          let all = are_hashed d.bytes own (table t) in
          let r = row_of t c.args.blob.now c.args.room.now.entries now.node indexed (omega arith) in
          let next : suc now.node ≡ now.node + 1 = omega arith in
          let is = c.in-Ok.ensures.told is_honest t there r.0 r.1 ∙ ap (λ (xs : List ℕ). hashed_as xs (map (read_place xs) c.args.places.now) (table t) now.node r.0) same.bytes in
          let one = hashed_more d.bytes own (table t) now.node r.0 (drop (suc now.node) (table t)) (drop now.node (table t)) now.has_any all r.2 c.in-Ok.found is (now.invariant.left honest t indexed) (sym c.if-is_bare.false ∙ c.is_bare.ensures) in
          subst (λ (n : ℕ). hashed_from d.bytes own (table t) (now.node + 1) c.any_after-has_any.result (drop n (table t)) ≡ all) next
          (subst (λ (any : Bool). hashed_from d.bytes own (table t) (now.node + 1) any (drop (suc now.node) (table t)) ≡ all) (sym c.any_after-has_any.ensures) one);
    }

pub returns-clause-told : goal.returns-clause-told
returns-clause-told g c = λ honest t indexed.
    let d = g.S.Source.device c.args.source.now in
    let now = c.loop-node in
    let own = map (read_place d.bytes) c.args.places.now in
    hashed_end d.bytes own (table t) now.node now.has_any (are_hashed d.bytes own (table t)) (drop now.node (table t))
    (drop_end (table t) now.node (omega (arith, rows_count t c.args.blob.now c.args.room.now.entries indexed))) (now.invariant.left honest t indexed)
