use Rattle.std.proofs.Common.{◌≡◌, ◌++◌, drop}
use Rattle.uimg_fit_building.specs.Placing.{placed_images}
use Rattle.uimg_fit_building.proofs.building.placing.place_images.Given as goal

-- what was copied and what is left give the whole
abbrev pub invariant-loop-image : goal.invariant-loop-image
invariant-loop-image g l = l.copies.items ++ placed_images l.fn.align l.fn.key l.at (drop l.image-index l.image-items) ≡ placed_images l.fn.align l.fn.key l.fn.at l.image-items
