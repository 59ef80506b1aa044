use Rattle.std.proofs.Common.{◌≡◌, ◌<◌, length, drop, ℕ, suc, ◌+◌, ◌∙◌, ap, sym, subst, refl, List, [], ◌∷◌, arith}
use Rattle.std.proofs.{lemmas.List.drop_more, Math.ListN.drop_of_length-le}
use Rattle.uimg_texts.specs.Numbers.{up4}
use Rattle.uimg_blob_writing.specs.{declared.tree.Node.Node, Layouts.{properties_size, nodes_size}}
use Rattle.uimg_blob_writing.specs.{Content.{Content, Unread, count}, Trees.{siblings, node_of}}
use Rattle.uimg_blob_reading.specs.Plain.{NamedOf, no_node, a_node}
use Rattle.uimg_blob_writing.proofs.NodeLaws.{count-at}
use Rattle.uimg_blob_writing.proofs.sizes.+node_size.Goals as goal

size-one : (name : List ℕ) (own : List (NamedOf Content)) (below : Unread) → (let t : Unread = a_node name own below no_node in nodes_size t) ≡ 8 + up4 (length name + 1) + properties_size own + nodes_size below
unfolding nodes_size
size-one name own below = omega arith

size-more : {A : Type 0} (n : Node A) (ns : List (Node A)) → nodes_size (siblings (n ∷ ns)) ≡ nodes_size (node_of n) + nodes_size (siblings ns)
unfolding nodes_size
size-more n ns = omega arith

size-none : (let t : Unread = no_node in nodes_size t) ≡ 0
unfolding nodes_size
size-none = refl

pub node_size-requires : goal.node_size-requires
node_size-requires g t c κs within =
    let items = c.items-node-items.result.now in
    let i = c.loop-node.node-index in
    let d = c.node-item.result in
    let less = subst (λ (n : Node g.row.A.Denot). suc (count n.children) < count (siblings items)) (sym c.node-item.is) (count-at items i d c.loop-node-test.true) in
    let whole : count (siblings items) ≡ count c.args.this.node.now.children = ap (λ (l : Unread). count l) c.items-node-items.ensures in
    let below : suc (count d.children) < t = omega (arith, less, whole, c.decreases) in
    (below, within)

pub loop-node-preserved : goal.loop-node-preserved
loop-node-preserved g t c =
    let items = c.items-node-items.result.now in
    let i = c.loop-node.node-index in
    let d = c.node-item.result in
    let more : drop i items ≡ d ∷ drop (i + 1) items = drop_more items i d c.loop-node-test.true ∙ ap (λ (p : Node g.row.A.Denot). p ∷ drop (i + 1) items) (sym c.node-item.is) in
    let step : nodes_size (siblings (drop i items)) ≡ nodes_size (node_of d) + nodes_size (siblings (drop (i + 1) items)) = ap (λ (l : List (Node g.row.A.Denot)). nodes_size (siblings l)) more ∙ size-more d (drop (i + 1) items) in
    record {
      small = omega arith;
      whole = omega (arith, c.loop-node.invariant.whole, step, c.node_size.ensures);
    }

pub returns : goal.returns
returns g t c =
    let items = c.items-node-items.result.now in
    let i = c.loop-node.node-index in
    let node = c.args.this.node.now in
    let none : drop i items ≡ [] = drop_of_length-le items {i = i} c.loop-node-test.false in
    let last : nodes_size (siblings (drop i items)) ≡ 0 = ap (λ (l : List (Node g.row.A.Denot)). nodes_size (siblings l)) none ∙ size-none in
    let one = size-one node.name node.props node.children in
    let same : nodes_size (siblings items) ≡ nodes_size node.children = ap (λ (l : Unread). nodes_size l) c.items-node-items.ensures in
    omega (arith, c.loop-node.invariant.whole, c.loop-node.invariant.small, last, one, same)
