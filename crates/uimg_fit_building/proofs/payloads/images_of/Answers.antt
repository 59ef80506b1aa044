use Rattle.std.proofs.Common.{◌≡◌, ◌∷◌, ◌+◌, ◌∙◌, List, ap, sym, drop, map, find, codes}
use Rattle.std.{proofs.{lemmas.List.drop_more, Math.ListN.drop_of_length-le}, specs.Str.bytes_eq}
use Rattle.uimg_blob_writing.specs.declared.tree.Node.{Node}
use Rattle.uimg_fit_building.specs.Behind.{entry}
use Rattle.uimg_fit_building.proofs.PlacingLaws.{images-found, images-missing}
use Rattle.uimg_fit_building.proofs.payloads.images_of.Goals as goal

pub returns-then-is_images : goal.returns-then-is_images
returns-then-is_images g c =
    let items = c.items-node-items.result.now in
    let i = c.loop-node.node-index in
    let d = c.node-item.result in
    let more : drop i items ≡ d ∷ drop (i + 1) items = drop_more items i d c.loop-node-test.true ∙ ap (λ (p : Node g.row.A.Denot). p ∷ drop (i + 1) items) (sym c.node-item.is) in
    images-found items _ c.items-node-items.ensures d (drop (i + 1) items) c.items.result.now (sym c.is_images.ensures ∙ c.if-is_images.true)
    (ap (λ (l : List (Node g.row.A.Denot)). find (λ x. bytes_eq (codes "images") x.name) (map entry l)) (sym more) ∙ c.loop-node.invariant) c.items.ensures

pub returns : goal.returns
returns g c =
    let items = c.items-node-items.result.now in
    let i = c.loop-node.node-index in
    images-missing items _ c.items-node-items.ensures (drop i items) (drop_of_length-le items {i = i} c.loop-node-test.false) c.loop-node.invariant
