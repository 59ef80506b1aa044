use Rattle.std.proofs.Common.{◌≡◌, ◌++◌, drop}
use Rattle.uimg_fit_building.specs.Placing.{after_first, cells, is_data, placed_properties}
use Rattle.uimg_fit_building.proofs.building.placing.place_properties.Given as goal

-- what was copied and what is left give the whole
abbrev pub invariant-loop-prop : goal.invariant-loop-prop
invariant-loop-prop g l =
    l.copies.items ++ after_first is_data (cells l.fn.key l.fn.at) l.moved (drop l.prop-index l.prop-items) ≡ placed_properties l.fn.key l.fn.at l.prop-items
