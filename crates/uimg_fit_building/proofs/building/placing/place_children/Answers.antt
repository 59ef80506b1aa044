use Rattle.std.proofs.Common.{◌≡◌, ◌∷◌, ◌++◌, ◌+◌, ◌∙◌, List, [], ap, sym, drop, codes}
use Rattle.std.proofs.{lemmas.List.drop_more, Math.ListN.drop_of_length-le}
use Rattle.uimg_blob_writing.specs.{declared.tree.Node.Node, Content.Unread, Trees.siblings}
use Rattle.uimg_fit_building.specs.{Filling.in_first, Placing.{is_images_node, with_placed}}
use Rattle.uimg_fit_building.specs.UnreadTrees.{unread_from}
use Rattle.uimg_fit_building.proofs.PlacingLaws.{behind-goes, before-goes, first-goes, no-more, children-placed}
use Rattle.uimg_fit_building.proofs.building.placing.place_children.Goals as goal
use Rattle.uimg_fit_building.proofs.building.placing.place_children.Goals.{then-not-moved+then-is_images+in_ok-copy, else-not-moved+in_ok-copy-2, else-not-moved-via-then-not-moved+else-is_images, else-not-moved-via-else-not-moved}

pub loop-node-preserved : goal.loop-node-preserved
loop-node-preserved g c =
    let f : Node g.row.A.Denot → List (Node g.row.A.Denot) = λ n. with_placed c.args.align c.args.key.now c.args.at n ∷ [] in
    let items = c.items-node-items.result.now in
    let i = c.loop-node.node-index in
    let d = c.node-item.result in
    let done = c.loop-node.copies.items in
    let more : drop i items ≡ d ∷ drop (i + 1) items = drop_more items i d c.loop-node-test.true ∙ ap (λ (p : Node g.row.A.Denot). p ∷ drop (i + 1) items) (sym c.node-item.is) in
    let copies = c.push.new.self.items in
    elim c.if-not-moved.branch [
      | then-not-moved+then-is_images+in_ok-copy w ↦
          first-goes is_images_node f done (drop (i + 1) items) _ (drop i items) copies d d c.loop-node.moved c.if-not-moved.moved more c.loop-node.invariant
          w.if-not-moved.true (sym w.is_images.ensures ∙ w.if-is_images.true) w.moved-is
          (c.in_ok-push.ensures.items ∙ ap (λ (n : Node g.row.A.Denot). done ++ n ∷ []) (w.copy-is ∙ w.in_ok-copy.ensures))
      | else-not-moved+in_ok-copy-2 w ↦
          elim w.else-not-moved.branch [
            | else-not-moved-via-then-not-moved+else-is_images h ↦
                before-goes is_images_node f done (drop (i + 1) items) _ (drop i items) copies d c.if-not-moved.copy c.loop-node.moved c.if-not-moved.moved more c.loop-node.invariant
                h.if-not-moved.true (sym h.is_images.ensures ∙ h.if-is_images.false) w.moved-is c.in_ok-push.ensures.items (w.copy-is ∙ w.in_ok-copy-2.ensures)
            | else-not-moved-via-else-not-moved h ↦
                behind-goes is_images_node f done (drop (i + 1) items) _ (drop i items) copies d c.if-not-moved.copy c.loop-node.moved c.if-not-moved.moved more c.loop-node.invariant
                h.if-not-moved.false w.moved-is c.in_ok-push.ensures.items (w.copy-is ∙ w.in_ok-copy-2.ensures)
          ]
    ]

pub returns : goal.returns
returns g c =
    let key = c.args.key.now in
    let at = c.args.at in
    let items = c.items-node-items.result.now in
    let i = c.loop-node.node-index in
    let whole = no-more is_images_node (λ n. with_placed c.args.align key at n ∷ []) c.loop-node.copies.items _ c.loop-node.moved (drop i items) (drop_of_length-le items {i = i} c.loop-node-test.false) c.loop-node.invariant in
    c.of.ensures ∙ ap (λ (l : List (Node g.row.A.Denot)). siblings l) whole ∙ children-placed c.args.align key at items
    ∙ ap (λ (t : Unread). in_first (codes "images") (unread_from c.args.align key at) t) c.items-node-items.ensures
