use Rattle.std.proofs.Common.{rules, ◌≡◌, ◌∙◌, ℕ, suc, ◌+◌, List, Bool, false, drop, length, Some, ap, sym, subst, arith}
use Rattle.std.proofs.Math.ListN.{drop_of_length-le}
use Rattle.uimg_base.specs.Held.{Held}
use Rattle.uimg_blob_reading.specs.{Rows.{table}}
use Rattle.uimg_fit_reading.proofs.OpenedLaws.{still}
use Rattle.uimg_signing.specs.Listing.{name_in}
use Rattle.uimg_signing.proofs.NamedLaws.{row_of, rows_count}
use Rattle.uimg_strict.specs.{Telling.read_loose}
use Rattle.uimg_verifying.specs.Configurations.{judged_node, unsigned_from}
use Rattle.uimg_verifying.proofs.{ConfigurationLaws.{all_signed, no_configuration, other_more, refused_here, signed_more}, RefusalLaws.over}
use Rattle.uimg_verifying.proofs.configurations.first_unsigned.Goals as goal
use Rattle.uimg_verifying.proofs.configurations.first_unsigned.Goals.{in-Other, in-Signed}

pub returns-in-Refused-clause-told : goal.returns-in-Refused-clause-told
returns-in-Refused-clause-told g c = λ t o.
    let d = g.S.Source.device c.args.source.now in
    let e = g.S.Source.device c.loop-node.source in
    let f = g.S.Source.device c.judge.new.source in
    let now = c.loop-node in
    let o1 = still now.invariant.uses.same now.invariant.room o in
    let o2 = still c.in_ok-judge.ensures.uses.same c.in_ok-judge.ensures.room o1 in
    let r = row_of t c.args.blob.now c.args.room.now.entries now.node o.read.indexed (search rules) in
    let is = over d e (λ (file : List ℕ). c.in_ok-judge.field-0 ≡ judged_node c.args.required.now file (table t) now.node r.0) now.invariant.uses.same (c.in_ok-judge.ensures.told t o1 r.0 r.1) in
    let loose = read_loose c.in_ok-found-in-Refused.found in
    let said = λ (file : List ℕ). loose ≡ record { why = c.in-Refused.why; node = Some (name_in file r.0) } in
    let what = over d e said now.invariant.uses.same (over e f said c.in_ok-judge.ensures.uses.same (c.in_ok-found-in-Refused.ensures.told o2.honest t o2.read.indexed r.0 r.1)) in
    refused_here c.args.required.now d.bytes (table t) now.node r.0 (drop (suc now.node) (table t)) now.has_any c.in_ok-judge.field-0 is c.in-Refused.why c.in-Refused.is loose what
    ∙ ap (unsigned_from c.args.required.now d.bytes (table t) now.node now.has_any) (sym r.2) ∙ now.invariant.left t o

pub loop-node-preserved : goal.loop-node-preserved
loop-node-preserved g c = record {
  uses = search rules;
  room = search rules;
  left = λ t o.
      let d = g.S.Source.device c.args.source.now in
      let e = g.S.Source.device c.loop-node.source in
      let now = c.loop-node in
      let o1 = still now.invariant.uses.same now.invariant.room o in
      let r = row_of t c.args.blob.now c.args.room.now.entries now.node o.read.indexed (search rules) in
      let is = over d e (λ (file : List ℕ). c.in_ok-judge.field-0 ≡ judged_node c.args.required.now file (table t) now.node r.0) now.invariant.uses.same (c.in_ok-judge.ensures.told t o1 r.0 r.1) in
      let rest = ap (unsigned_from c.args.required.now d.bytes (table t) now.node now.has_any) (sym r.2) ∙ now.invariant.left t o in
      let from = λ (any : Bool). unsigned_from c.args.required.now d.bytes (table t) (now.node + 1) any (drop (suc now.node) (table t)) ≡ unsigned_from c.args.required.now d.bytes (table t) 0 false (table t) in
      let next : unsigned_from c.args.required.now d.bytes (table t) (now.node + 1) c.match-branch-2.has_any (drop (suc now.node) (table t)) ≡ unsigned_from c.args.required.now d.bytes (table t) 0 false (table t) =
      elim c.match-branch-2.branch [
        | in-Other w ↦ subst from (sym w.has_any-is) (other_more c.args.required.now d.bytes (table t) now.node r.0 (drop (suc now.node) (table t)) now.has_any c.in_ok-judge.field-0 is w.in-Other.is ∙ rest)
        | in-Signed w ↦ subst from (sym w.has_any-is) (signed_more c.args.required.now d.bytes (table t) now.node r.0 (drop (suc now.node) (table t)) now.has_any c.in_ok-judge.field-0 is w.in-Signed.is ∙ rest)
      ] in
      let one_more : suc now.node ≡ now.node + 1 = omega arith in
      subst (λ (n : ℕ). unsigned_from c.args.required.now d.bytes (table t) (now.node + 1) c.match-branch-2.has_any (drop n (table t)) ≡ unsigned_from c.args.required.now d.bytes (table t) 0 false (table t)) one_more next;
}

pub returns-then-has_any-clause-told : goal.returns-then-has_any-clause-told
returns-then-has_any-clause-told g c = λ t o.
    let d = g.S.Source.device c.args.source.now in
    let now = c.loop-node in
    all_signed c.args.required.now d.bytes (table t) now.node now.has_any (drop now.node (table t)) (drop_of_length-le (table t) {i = now.node} (omega (arith, rows_count t c.args.blob.now c.args.room.now.entries o.read.indexed, c.loop-node-test.false, ap (λ (h : Held). length h.entries) now.invariant.room))) c.if-has_any.true
    ∙ now.invariant.left t o

pub returns-clause-told : goal.returns-clause-told
returns-clause-told g c = λ t o.
    let d = g.S.Source.device c.args.source.now in
    let now = c.loop-node in
    no_configuration c.args.required.now d.bytes (table t) now.node now.has_any (drop now.node (table t)) (drop_of_length-le (table t) {i = now.node} (omega (arith, rows_count t c.args.blob.now c.args.room.now.entries o.read.indexed, c.loop-node-test.false, ap (λ (h : Held). length h.entries) now.invariant.room))) c.if-has_any.false (read_loose c.in_ok-found.found) c.in_ok-found.ensures.told
    ∙ now.invariant.left t o
