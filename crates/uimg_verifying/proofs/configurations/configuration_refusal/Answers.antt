use Rattle.std.proofs.Common.{rules, ◌≡◌, ◌∙◌, ℕ, suc, add-one, ◌-◌, List, drop, length, ap, sym, subst, arith}
use Rattle.std.proofs.Math.ListN.{drop_of_length-le}
use Rattle.uimg_base.specs.Held.{Held}
use Rattle.uimg_blob_reading.specs.Rows.{table}
use Rattle.uimg_fit_reading.proofs.OpenedLaws.{still}
use Rattle.uimg_signing.proofs.NamedLaws.{row_of, rows_count}
use Rattle.uimg_strict.specs.declared.loose.Looseness.{Looseness}
use Rattle.uimg_verifying.specs.Configurations.{configuration_refusal, refused_from, tried_node}
use Rattle.uimg_verifying.proofs.{ConfigurationLaws.{none_left, none_more, none_tried, one_refused, one_valid, strings_outside}, RefusalLaws.over}
use Rattle.uimg_verifying.proofs.configurations.configuration_refusal.Goals as goal
use Rattle.uimg_verifying.proofs.configurations.configuration_refusal.Goals.{in-Other, in-Refused}

pub returns-in-Valid-clause-told : goal.returns-in-Valid-clause-told
returns-in-Valid-clause-told g c = λ t o its at.
    let d = g.S.Source.device c.args.source.now in
    let e = g.S.Source.device c.loop-node.source in
    let now = c.loop-node in
    let o1 = still now.invariant.uses.same now.invariant.room o in
    let r = row_of t c.args.blob.now c.args.room.now.entries now.node o.read.indexed (search rules) in
    let is = over d e (λ (file : List ℕ). c.in_ok-try_node.field-0 ≡ tried_node c.args.by.takes_sha1 c.args.by.key.now file (table t) c.args.configuration its r.0) now.invariant.uses.same (c.in_ok-try_node.ensures.told t o1 its r.0 at r.1) in
    one_valid c.args.by.takes_sha1 c.args.by.key.now d.bytes (table t) c.args.configuration its r.0 (drop (suc now.node) (table t)) now.why c.in_ok-try_node.field-0 is now.left (now.left - 1) c.in-Valid.is (search rules)
    ∙ ap (refused_from c.args.by.takes_sha1 c.args.by.key.now d.bytes (table t) c.args.configuration its now.why now.left) (sym r.2) ∙ now.invariant.left t o its at

pub returns-in-Outside-clause-told : goal.returns-in-Outside-clause-told
returns-in-Outside-clause-told g c = λ t o its at.
    let d = g.S.Source.device c.args.source.now in
    let e = g.S.Source.device c.loop-node.source in
    let now = c.loop-node in
    let o1 = still now.invariant.uses.same now.invariant.room o in
    let r = row_of t c.args.blob.now c.args.room.now.entries now.node o.read.indexed (search rules) in
    let is = over d e (λ (file : List ℕ). c.in_ok-try_node.field-0 ≡ tried_node c.args.by.takes_sha1 c.args.by.key.now file (table t) c.args.configuration its r.0) now.invariant.uses.same (c.in_ok-try_node.ensures.told t o1 its r.0 at r.1) in
    strings_outside c.args.by.takes_sha1 c.args.by.key.now d.bytes (table t) c.args.configuration its r.0 (drop (suc now.node) (table t)) now.why c.in_ok-try_node.field-0 is now.left c.in-Outside.is
    ∙ ap (refused_from c.args.by.takes_sha1 c.args.by.key.now d.bytes (table t) c.args.configuration its now.why now.left) (sym r.2) ∙ now.invariant.left t o its at

pub returns-in_default-clause-told : goal.returns-in_default-clause-told
returns-in_default-clause-told g c = λ t o its at.
    let d = g.S.Source.device c.args.source.now in
    let e = g.S.Source.device c.loop-node.source in
    let now = c.loop-node in
    let o1 = still now.invariant.uses.same now.invariant.room o in
    let r = row_of t c.args.blob.now c.args.room.now.entries now.node o.read.indexed (search rules) in
    let is = over d e (λ (file : List ℕ). c.in_ok-try_node.field-0 ≡ tried_node c.args.by.takes_sha1 c.args.by.key.now file (table t) c.args.configuration its r.0) now.invariant.uses.same (c.in_ok-try_node.ensures.told t o1 its r.0 at r.1) in
    none_tried c.args.by.takes_sha1 c.args.by.key.now d.bytes (table t) c.args.configuration its r.0 (drop (suc now.node) (table t)) now.why c.in_ok-try_node.field-0 is now.left c.in_default.not-Other c.in_default.not-Outside (search rules)
    ∙ ap (refused_from c.args.by.takes_sha1 c.args.by.key.now d.bytes (table t) c.args.configuration its now.why now.left) (sym r.2) ∙ now.invariant.left t o its at

pub returns-in_default-2-clause-told : goal.returns-in_default-2-clause-told
returns-in_default-2-clause-told g c = λ t o its at.
    let d = g.S.Source.device c.args.source.now in
    let e = g.S.Source.device c.loop-node.source in
    let now = c.loop-node in
    let o1 = still now.invariant.uses.same now.invariant.room o in
    let r = row_of t c.args.blob.now c.args.room.now.entries now.node o.read.indexed (search rules) in
    let is = over d e (λ (file : List ℕ). c.in_ok-try_node.field-0 ≡ tried_node c.args.by.takes_sha1 c.args.by.key.now file (table t) c.args.configuration its r.0) now.invariant.uses.same (c.in_ok-try_node.ensures.told t o1 its r.0 at r.1) in
    none_tried c.args.by.takes_sha1 c.args.by.key.now d.bytes (table t) c.args.configuration its r.0 (drop (suc now.node) (table t)) now.why c.in_ok-try_node.field-0 is now.left c.in_default.not-Other c.in_default.not-Outside (search rules)
    ∙ ap (refused_from c.args.by.takes_sha1 c.args.by.key.now d.bytes (table t) c.args.configuration its now.why now.left) (sym r.2) ∙ now.invariant.left t o its at

pub loop-node-preserved : goal.loop-node-preserved
loop-node-preserved g c = record {
  uses = search rules;
  room = search rules;
  left = λ t o its at.
      let d = g.S.Source.device c.args.source.now in
      let e = g.S.Source.device c.loop-node.source in
      let now = c.loop-node in
      let o1 = still now.invariant.uses.same now.invariant.room o in
      let r = row_of t c.args.blob.now c.args.room.now.entries now.node o.read.indexed (search rules) in
      let is = over d e (λ (file : List ℕ). c.in_ok-try_node.field-0 ≡ tried_node c.args.by.takes_sha1 c.args.by.key.now file (table t) c.args.configuration its r.0) now.invariant.uses.same (c.in_ok-try_node.ensures.told t o1 its r.0 at r.1) in
      let rest = ap (refused_from c.args.by.takes_sha1 c.args.by.key.now d.bytes (table t) c.args.configuration its now.why now.left) (sym r.2) ∙ now.invariant.left t o its at in
      let from = λ (why : Looseness) (left : ℕ). refused_from c.args.by.takes_sha1 c.args.by.key.now d.bytes (table t) c.args.configuration its why left (drop (suc now.node) (table t)) ≡ configuration_refusal c.args.by.takes_sha1 c.args.by.key.now d.bytes (table t) c.args.configuration its in
      let next : refused_from c.args.by.takes_sha1 c.args.by.key.now d.bytes (table t) c.args.configuration its c.match-branch-2.why c.match-branch-2.left (drop (suc now.node) (table t)) ≡ configuration_refusal c.args.by.takes_sha1 c.args.by.key.now d.bytes (table t) c.args.configuration its =
      elim c.match-branch-2.branch [
        | in-Other w ↦ subst (λ (why : Looseness). from why c.match-branch-2.left) (sym w.why-is) (subst (λ (left : ℕ). from now.why left) (sym w.left-is)
            (none_more c.args.by.takes_sha1 c.args.by.key.now d.bytes (table t) c.args.configuration its r.0 (drop (suc now.node) (table t)) now.why c.in_ok-try_node.field-0 is now.left w.in-Other.is ∙ rest))
        | in-Refused w ↦ subst (λ (why : Looseness). from why c.match-branch-2.left) (sym w.why-is) (subst (λ (left : ℕ). from w.in-Refused.found left) (sym w.left-is)
            (one_refused c.args.by.takes_sha1 c.args.by.key.now d.bytes (table t) c.args.configuration its r.0 (drop (suc now.node) (table t)) now.why c.in_ok-try_node.field-0 is now.left (now.left - 1) w.in-Refused.found w.in-Refused.is (omega (arith, w.if-left-gt0-2.true)) ∙ rest))
      ] in rw add-one next;
}

pub returns-clause-told : goal.returns-clause-told
returns-clause-told g c = λ t o its at.
    let d = g.S.Source.device c.args.source.now in
    let now = c.loop-node in
    none_left c.args.by.takes_sha1 c.args.by.key.now d.bytes (table t) c.args.configuration its now.why now.left (drop now.node (table t)) (drop_of_length-le (table t) {i = now.node} (omega (arith, rows_count t c.args.blob.now c.args.room.now.entries o.read.indexed, c.loop-node-test.false, ap (λ (h : Held). length h.entries) now.invariant.room)))
    ∙ now.invariant.left t o its at
