use Rattle.std.proofs.Common.{List, sym, subst, arith}
use Rattle.std.{specs.List.All, proofs.lemmas.List.Elements.All-push}
use Rattle.uimg_blob_reading.specs.Rows.{table}
use Rattle.uimg_info.specs.Signatures.{SignatureInside, read_signature, signature_said}
use Rattle.uimg_info.specs.declared.signatures.SignatureFacts.{SignatureFacts}
use Rattle.uimg_info.proofs.SignatureLaws.{read_all, read_more}
use Rattle.uimg_info.proofs.signatures.facts_of.Goals as goal

pub loop-node-preserved : goal.loop-node-preserved
loop-node-preserved g c =
    let facts = c.loop-node.facts.items in
    let it = c.signature_facts.result in
    record {
      inside = λ size ends.
          subst (λ (l : List SignatureFacts). All (SignatureInside size) l) (sym c.in_ok-push.ensures.items)
          (All-push (SignatureInside size) facts it (c.loop-node.invariant.inside size ends) (c.signature_facts.ensures.inside size ends));
      said = λ file t indexed.
          read_more (read_signature file) (signature_said file (table t)) facts c.args.nodes.now c.loop-node.node-index it _ c.push.new.self.items c.in_ok-push.ensures.items c.loop-node-test.true
          (c.loop-node.invariant.said file t indexed) (c.signature_facts.ensures.said file t indexed);
    }

pub returns-clause-said : goal.returns-clause-said
returns-clause-said g c = λ file t indexed.
    read_all (read_signature file) (signature_said file (table t)) c.loop-node.facts.items c.args.nodes.now c.loop-node.node-index (omega arith) (c.loop-node.invariant.said file t indexed)
