use Rattle.std.proofs.Common.{◌≡◌, ◌∷◌, ◌++◌, ◌+◌, ◌%◌, ◌∙◌, List, [], ap, sym, drop, arith}
use Rattle.std.proofs.{lemmas.List.drop_more, Math.ListN.drop_of_length-le}
use Rattle.uimg_blob_writing.specs.{declared.tree.Node.Node, Content.Unread, Trees.siblings}
use Rattle.uimg_fit_building.specs.Placing.{placed_images}
use Rattle.uimg_fit_building.specs.UnreadTrees.{padded_size_of, unread_from}
use Rattle.uimg_fit_building.proofs.PlacingLaws.{image-goes, images-end, images-placed}
use Rattle.uimg_fit_building.proofs.building.placing.place_images.Goals as goal

pub loop-image-preserved : goal.loop-image-preserved
loop-image-preserved g c =
    let key = c.args.key.now in
    let items = c.items-image-items.result.now in
    let i = c.loop-image.image-index in
    let d = c.image-item.result in
    let at = c.loop-image.at in
    let done = c.loop-image.copies.items in
    let next = (at + c.padded_size_in_cell-at.result) % 4294967296 in
    let more : drop i items ≡ d ∷ drop (i + 1) items = drop_more items i d c.loop-image-test.true ∙ ap (λ (p : Node g.row.A.Denot). p ∷ drop (i + 1) items) (sym c.image-item.is) in
    let same : next % 4294967296 ≡ (at + padded_size_of c.args.align d.props) % 4294967296 = omega (arith, c.padded_size_in_cell-at.ensures) in
    ap (λ (l : List (Node g.row.A.Denot)). l ++ placed_images c.args.align key next (drop (i + 1) items)) (c.in_ok-push.ensures.items ∙ ap (λ (n : Node g.row.A.Denot). done ++ n ∷ []) c.in_ok-copy.ensures)
    ∙ image-goes c.args.align key at next done _ (drop (i + 1) items) d (drop i items) more same c.loop-image.invariant

pub returns : goal.returns
returns g c =
    let key = c.args.key.now in
    let at = c.args.at in
    let items = c.items-image-items.result.now in
    let i = c.loop-image.image-index in
    let whole = images-end c.args.align key c.loop-image.at c.loop-image.copies.items _ (drop i items) (drop_of_length-le items {i = i} c.loop-image-test.false) c.loop-image.invariant in
    c.of.ensures ∙ ap (λ (l : List (Node g.row.A.Denot)). siblings l) whole ∙ images-placed c.args.align key at items
    ∙ ap (λ (t : Unread). unread_from c.args.align key at t) c.items-image-items.ensures
