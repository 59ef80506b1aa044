use Rattle.std.proofs.Common.{rules, ◌≡◌, ◌∙◌, ◌+◌, suc, ℕ, List, Bool, false, IsTrue, if◌then◌else◌, drop, ap, sym, subst, arith}
use Rattle.uimg_blob_reading.specs.{Blob.tree, Rows.table}
use Rattle.uimg_signing.specs.Reach.{is_reached, takes, takes_from}
use Rattle.uimg_signing.proofs.{CostLaws.{more_asked, no_refusal}, LookLaws.drop_end, NamedLaws.{row_of, rows_count}, ReachLaws.{takes_end, takes_one}}
use Rattle.uimg_signing.proofs.reach.is_reached.Goals as goal

pub loop-node-preserved : goal.loop-node-preserved
loop-node-preserved g c =
    let d = g.S.Source.device c.args.source.now in
    let now = c.loop-node in
    let same = now.invariant.same in
    record {
      same = record { bytes = c.takes.ensures.uses.same.bytes ∙ same.bytes; honest = c.takes.ensures.uses.same.honest ∙ same.honest };
      failures = search rules;
      asked = more_asked d.asked (g.S.Source.device now.source).asked (g.S.Source.device c.takes.new.source).asked now.node 255 now.invariant.asked c.takes.ensures.uses.asked;
      within = omega arith;
      left = λ honest t indexed.
          let is_honest = subst (λ (b : Bool). IsTrue b) (sym same.honest) honest in
          let r = row_of t c.args.blob.now c.args.room.now.entries now.node indexed (omega arith) in
          let next : suc now.node ≡ now.node + 1 = omega arith in
          let it = c.in-Ok-true.ensures.told is_honest t indexed r.0 r.1 ∙ ap (λ (xs : List ℕ). takes xs (table t) now.node r.0) same.bytes in
          let one = takes_one d.bytes (table t) now.node r.0 (drop (suc now.node) (table t)) (drop now.node (table t)) (is_reached d.bytes (table t)) c.in-Ok-true.field-0 r.2 it (now.invariant.left honest t indexed) in
          subst (λ (n : ℕ). takes_from d.bytes (table t) (now.node + 1) (drop n (table t)) ≡ is_reached d.bytes (table t)) next
          (subst (λ (b : Bool). (if b then takes_from d.bytes (table t) (now.node + 1) (drop (suc now.node) (table t)) else false) ≡ is_reached d.bytes (table t)) c.in-Ok-true.field-0-test one);
    }

pub returns-in-Ok-false-clause-told : goal.returns-in-Ok-false-clause-told
returns-in-Ok-false-clause-told g c = λ honest t indexed.
    let d = g.S.Source.device c.args.source.now in
    let now = c.loop-node in
    let is_honest = subst (λ (b : Bool). IsTrue b) (sym now.invariant.same.honest) honest in
    let r = row_of t c.args.blob.now c.args.room.now.entries now.node indexed (omega arith) in
    let it = c.in-Ok-false.ensures.told is_honest t indexed r.0 r.1 ∙ ap (λ (xs : List ℕ). takes xs (table t) now.node r.0) now.invariant.same.bytes in
    let one = takes_one d.bytes (table t) now.node r.0 (drop (suc now.node) (table t)) (drop now.node (table t)) (is_reached d.bytes (table t)) c.in-Ok-false.field-0 r.2 it (now.invariant.left honest t indexed) in
    subst (λ (b : Bool). (if b then takes_from d.bytes (table t) (now.node + 1) (drop (suc now.node) (table t)) else false) ≡ is_reached d.bytes (table t)) c.in-Ok-false.field-0-test one

pub returns-in-Err-clause-refused : goal.returns-in-Err-clause-refused
returns-in-Err-clause-refused g c = λ honest t is indexed.
    let now = c.loop-node in
    let is_honest = subst (λ (b : Bool). IsTrue b) (sym now.invariant.same.honest) honest in
    let r = row_of t c.args.blob.now c.args.room.now.entries now.node indexed (omega arith) in
    no_refusal c.in-Err.fault _ (c.in-Err.ensures.refused is_honest t (ap tree now.invariant.same.bytes ∙ is) indexed r.0 r.1)

pub returns-clause-told : goal.returns-clause-told
returns-clause-told g c = λ honest t indexed.
    let d = g.S.Source.device c.args.source.now in
    let now = c.loop-node in
    takes_end d.bytes (table t) now.node (drop now.node (table t)) (is_reached d.bytes (table t))
    (drop_end (table t) now.node (omega (arith, rows_count t c.args.blob.now c.args.room.now.entries indexed))) (now.invariant.left honest t indexed)
