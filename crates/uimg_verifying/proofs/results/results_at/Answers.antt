use Rattle.std.proofs.Common.{rules, ◌≡◌, ◌∙◌, ap, ◌++◌, ◌∷◌, ◌+◌, [], List, ℕ, drop, get_or, length, map, refl, arith}
use Rattle.std.proofs.lemmas.List.{map-append}
use Rattle.uimg_blob_reading.specs.Rows.{table}
use Rattle.uimg_fit_reading.proofs.OpenedLaws.{still}
use Rattle.uimg_signing.specs.SignatureNodes.{IsBelow}
use Rattle.uimg_signing.specs.declared.configuration_signatures.SignatureNode.{SignatureNode}
use Rattle.uimg_signing.proofs.NamedLaws.{row_of}
use Rattle.uimg_verifying.specs.Results.{read_result, result_at, result_of}
use Rattle.uimg_verifying.proofs.{ResultLaws.{node_left, one_more}, RefusalLaws.over}
use Rattle.uimg_verifying.proofs.results.results_at.Goals as goal

-- no node
none : SignatureNode
none = record { configuration = 0; node = 0 }

pub loop-at-preserved : goal.loop-at-preserved
unfolding none
loop-at-preserved g c = record {
  uses = search rules;
  room = search rules;
  left = λ t o.
      let d = g.S.Source.device c.args.source.now in
      let e = g.S.Source.device c.loop-at.source in
      let now = c.loop-at in
      let nodes = c.args.nodes.now in
      let n = get_or nodes now.at-index none in
      let o1 = still now.invariant.uses.same now.invariant.room o in
      let below : IsBelow (length now.room.entries) n = search rules in
      let its = row_of t c.args.blob.now now.room.entries n.configuration o1.read.indexed below.configuration in
      let row = row_of t c.args.blob.now now.room.entries n.node o1.read.indexed below.node in
      let r = c.in_ok-result.result in
      let is = over d e (λ (file : List ℕ). read_result r ≡ result_of c.args.required.now file (table t) n.configuration its.0 row.0) now.invariant.uses.same (c.in_ok-result.ensures.told t o1 its.0 row.0 its.1 row.1) in
      let pushed : c.push.new.self.items ≡ now.all.items ++ r ∷ [] = search rules in
      let added = ap (map read_result) pushed ∙ map-append read_result now.all.items (r ∷ []) in
      one_more c.args.required.now d.bytes (table t) n its.0 row.0 (drop (now.at-index + 1) nodes) (drop now.at-index nodes) (map read_result now.all.items) (map read_result c.push.new.self.items) _ (read_result r)
      (node_left nodes now.at-index none c.loop-at-test.true) its.1 row.1 is added (now.invariant.left t o);
}
