use Rattle.std.proofs.Common.{◌≡◌, ◌<◌, suc, ap, sym, subst, arith}
use Rattle.uimg_blob_writing.specs.{declared.tree.Node.Node, Content.{Unread, count}}
use Rattle.uimg_blob_writing.specs.Trees.{siblings}
use Rattle.uimg_blob_writing.proofs.NodeLaws.{count-at}
use Rattle.uimg_blob_writing.proofs.copying.+copy_this.Goals as goal

pub copy_this-requires : goal.copy_this-requires
copy_this-requires g t c κs within =
    let items = c.items-node-items.result.now in
    let i = c.loop-node.node-index in
    let d = c.node-item.result in
    let less = subst (λ (n : Node g.row.A.Denot). suc (count n.children) < count (siblings items)) (sym c.node-item.is) (count-at items i d c.loop-node-test.true) in
    let whole : count (siblings items) ≡ count c.args.this.node.now.children = ap (λ (l : Unread). count l) c.items-node-items.ensures in
    let below : suc (count d.children) < t = omega (arith, less, whole, c.decreases) in
    (below, within)
