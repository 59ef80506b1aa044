use Rattle.std.proofs.Common.{◌+◌, drop, sym, ◌∙◌, arith}
use Rattle.std.specs.Option.{option_map}
use Rattle.uimg_blob_reading.specs.Spots.{spots}
use Rattle.uimg_fit_reading.proofs.OpenedLaws.{still}
use Rattle.uimg_strict.specs.Looseness.{all_nodes, first_found, loose_node}
use Rattle.uimg_strict.specs.Telling.{read_loose}
use Rattle.uimg_strict.proofs.AllNodesLaws.{node_left, none_left}
use Rattle.uimg_strict.proofs.FoundLaws.{passed, found, nothing}
use Rattle.uimg_strict.proofs.PassLaws.{own_passed}
use Rattle.uimg_strict.proofs.nodes.first_loose_node.Goals as goal

pub returns-in_err-found-clause-told : goal.returns-in_err-found-clause-told
returns-in_err-found-clause-told g c = λ t o.
    let now = c.loop-node in
    let x = node_left t c.args.blob.now c.args.room.now.entries o.read.indexed now.node (omega (arith, c.loop-node-test.true, now.invariant.most)) in
    own_passed (option_map read_loose) (first_found loose_node (all_nodes (spots t))) c.from_residual.result c.in_err-found.field-0.0 c.from_residual.ensures.1
    (c.in_err-found.ensures.told t (still now.invariant.same now.invariant.room o) x.numbered.level x.found x.numbered.node)

pub returns-then-is_some-clause-told : goal.returns-then-is_some-clause-told
returns-then-is_some-clause-told g c = λ t o.
    let now = c.loop-node in
    let all = all_nodes (spots t) in
    let x = node_left t c.args.blob.now c.args.room.now.entries o.read.indexed now.node (omega (arith, c.loop-node-test.true, now.invariant.most)) in
    found loose_node read_loose all (drop now.node all) (drop (now.node + 1) all) x.found c.in_ok-found.found (now.invariant.left t o) x.left (sym c.is_some.ensures ∙ c.if-is_some.true)
    (c.in_ok-found.ensures.told t (still now.invariant.same now.invariant.room o) x.numbered.level x.found x.numbered.node)

pub loop-node-preserved : goal.loop-node-preserved
loop-node-preserved g c =
    let now = c.loop-node in
    let leaves = c.in_ok-found.ensures.leaves in
    record {
      same = record { bytes = leaves.uses.same.bytes ∙ now.invariant.same.bytes; honest = leaves.uses.same.honest ∙ now.invariant.same.honest };
      failures = leaves.uses.failures ∙ now.invariant.failures;
      room = leaves.room ∙ now.invariant.room;
      most = now.invariant.most;
      left = λ t o.
          let all = all_nodes (spots t) in
          let x = node_left t c.args.blob.now c.args.room.now.entries o.read.indexed now.node (omega (arith, c.loop-node-test.true, now.invariant.most)) in
          passed loose_node read_loose all (drop now.node all) (drop (now.node + 1) all) x.found c.in_ok-found.found (now.invariant.left t o) x.left (sym c.is_some.ensures ∙ c.if-is_some.false)
          (c.in_ok-found.ensures.told t (still now.invariant.same now.invariant.room o) x.numbered.level x.found x.numbered.node);
    }

pub returns-clause-told : goal.returns-clause-told
returns-clause-told g c = λ t o.
    let now = c.loop-node in
    let all = all_nodes (spots t) in
    nothing loose_node all (drop now.node all) (now.invariant.left t o)
    (none_left t c.args.blob.now c.args.room.now.entries o.read.indexed now.node (omega (arith, c.loop-node-test.false, now.invariant.most)))
