use Rattle.std.proofs.Common.{◌∙◌, ◌++◌, List, Option, ℕ, ap, arith, length}
use Rattle.uimg_blob_reading.specs.Rows.{table}
use Rattle.uimg_signing.specs.SignatureNodes.{node_of, signature_nodes}
use Rattle.uimg_signing.proofs.{NamedLaws.{row_of, rows_count}, SignatureNodeLaws.{below_more, nodes_end, nodes_more}}
use Rattle.uimg_signing.proofs.configuration_signatures.signature_nodes.Goals as goal

pub loop-node-preserved : goal.loop-node-preserved
loop-node-preserved g c =
    let i = c.loop-node.node in
    let old = c.loop-node.nodes.items in
    let added = c.in_ok-add_node.ensures in
    record {
      inside = below_more (length c.args.room.now.entries) i c.signed_configuration-signed.result old c.add_node.new.nodes.items added (omega arith) c.signed_configuration-signed.ensures.below c.loop-node.invariant.inside;
      left = λ t indexed.
          let r = row_of t c.args.blob.now c.args.room.now.entries i indexed (omega arith) in
          nodes_more (table t) i r.0 old c.add_node.new.nodes.items (signature_nodes (table t)) r.2
          (added ∙ ap (λ (o : Option ℕ). old ++ node_of i o) (c.signed_configuration-signed.ensures.told t indexed r.0 r.1)) (c.loop-node.invariant.left t indexed);
    }

pub returns-clause-told : goal.returns-clause-told
returns-clause-told g c = λ t indexed.
    nodes_end (table t) c.loop-node.node c.loop-node.nodes.items (signature_nodes (table t)) (omega (arith, rows_count t c.args.blob.now c.args.room.now.entries indexed)) (c.loop-node.invariant.left t indexed)
