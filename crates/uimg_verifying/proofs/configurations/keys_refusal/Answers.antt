use Rattle.std.proofs.Common.{rules, ◌≡◌, ◌∙◌, ◌+◌, ℕ, List, drop, sym, arith}
use Rattle.std.proofs.Math.ListN.{drop_of_length-le}
use Rattle.uimg_blob_reading.specs.Rows.{table}
use Rattle.uimg_fit_reading.proofs.OpenedLaws.{still}
use Rattle.uimg_keys.specs.declared.key.PublicKey.{PublicKey}
use Rattle.uimg_verifying.specs.Configurations.{configuration_refusal}
use Rattle.uimg_verifying.proofs.{ConfigurationLaws.{key_decides, key_left, keys_end, keys_go_on}, RefusalLaws.over}
use Rattle.uimg_verifying.proofs.configurations.keys_refusal.Goals as goal

pub returns-then-decides-clause-told : goal.returns-then-decides-clause-told
returns-then-decides-clause-told g c = λ t o its at.
    let d = g.S.Source.device c.args.source.now in
    let e = g.S.Source.device c.loop-key.source in
    let now = c.loop-key in
    let keys = c.args.required.now.keys.keys.items in
    let refusal = λ (key : PublicKey). configuration_refusal c.args.required.now.takes_sha1 key d.bytes (table t) c.args.configuration its in
    let key = c.key-item.result in
    let o1 = still now.invariant.uses.same now.invariant.room o in
    let same : c.as_slice-key-items.result.now ≡ keys = search rules in
    let are = key_left c.as_slice-key-items.result.now keys now.key-index key same c.loop-key-test.true c.key-item.is in
    let is = over d e (λ (file : List ℕ). c.in_ok-found.found ≡ configuration_refusal c.args.required.now.takes_sha1 key file (table t) c.args.configuration its) now.invariant.uses.same (c.in_ok-found.ensures.told t o1 its at) in
    key_decides c.args.required.now.keys.is_any refusal key (drop (now.key-index + 1) keys) (drop now.key-index keys) c.in_ok-found.found now.found are is (sym c.decides.ensures ∙ c.if-decides.true)
    ∙ now.invariant.left t o its at

pub loop-key-preserved : goal.loop-key-preserved
loop-key-preserved g c = record {
  uses = search rules;
  room = search rules;
  left = λ t o its at.
      let d = g.S.Source.device c.args.source.now in
      let e = g.S.Source.device c.loop-key.source in
      let now = c.loop-key in
      let keys = c.args.required.now.keys.keys.items in
      let refusal = λ (key : PublicKey). configuration_refusal c.args.required.now.takes_sha1 key d.bytes (table t) c.args.configuration its in
      let key = c.key-item.result in
      let o1 = still now.invariant.uses.same now.invariant.room o in
      let same : c.as_slice-key-items.result.now ≡ keys = search rules in
      let are = key_left c.as_slice-key-items.result.now keys now.key-index key same c.loop-key-test.true c.key-item.is in
      let is = over d e (λ (file : List ℕ). c.in_ok-found.found ≡ configuration_refusal c.args.required.now.takes_sha1 key file (table t) c.args.configuration its) now.invariant.uses.same (c.in_ok-found.ensures.told t o1 its at) in
      keys_go_on c.args.required.now.keys.is_any refusal key (drop (now.key-index + 1) keys) (drop now.key-index keys) c.in_ok-found.found now.found are is (sym c.decides.ensures ∙ c.if-decides.false)
      ∙ now.invariant.left t o its at;
}

pub returns-clause-told : goal.returns-clause-told
returns-clause-told g c = λ t o its at.
    let d = g.S.Source.device c.args.source.now in
    let now = c.loop-key in
    keys_end c.args.required.now.keys.is_any (λ (key : PublicKey). configuration_refusal c.args.required.now.takes_sha1 key d.bytes (table t) c.args.configuration its) (drop now.key-index c.args.required.now.keys.keys.items) now.found (drop_of_length-le c.args.required.now.keys.keys.items {i = now.key-index} (omega (arith, c.loop-key-test.false)))
    ∙ now.invariant.left t o its at
