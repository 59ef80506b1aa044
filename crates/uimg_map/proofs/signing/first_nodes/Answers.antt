use Rattle.std.proofs.Common.{◌+◌, drop, None, arith, slice_index_or}
use Rattle.std.proofs.lemmas.List.{drop_more}
use Rattle.uimg_map.specs.Signing.{first_from}
use Rattle.uimg_map.proofs.{SignatureLaws.no_node, SigningLaws.{no_more, one_more}}
use Rattle.uimg_signing.proofs.LookLaws.{drop_end}
use Rattle.uimg_map.proofs.signing.first_nodes.Goals as goal

pub loop-node-preserved : goal.loop-node-preserved
loop-node-preserved c =
    let now = c.loop-node in
    let all = c.args.all.now in
    let i = now.node-index in
    one_more now.last (slice_index_or all i no_node) (drop (i + 1) all) (drop i all) now.nodes.items c.add_first.new.nodes.items (first_from None all) (drop_more all i no_node c.loop-node-test.true) c.in_ok-add_first.ensures now.invariant

pub returns : goal.returns
returns c =
    let now = c.loop-node in
    let all = c.args.all.now in
    no_more now.last (drop now.node-index all) now.nodes.items (first_from None all) (drop_end all now.node-index (omega arith)) now.invariant
