use Rattle.std.proofs.Common.{◌≡◌, ◌++◌, ◌∷◌, [], drop}
use Rattle.uimg_fit_building.specs.Placing.{after_first, is_images_node, with_placed, placed_children}
use Rattle.uimg_fit_building.proofs.building.placing.place_children.Given as goal

-- what was copied and what is left give the whole
abbrev pub invariant-loop-node : goal.invariant-loop-node
invariant-loop-node g l =
    l.copies.items ++ after_first is_images_node (λ n. with_placed l.fn.align l.fn.key l.fn.at n ∷ []) l.moved (drop l.node-index l.node-items) ≡ placed_children l.fn.align l.fn.key l.fn.at l.node-items
