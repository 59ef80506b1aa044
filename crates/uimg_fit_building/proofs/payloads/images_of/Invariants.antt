use Rattle.std.{proofs.Common.{◌≡◌, map, drop, find, codes}, specs.Str.bytes_eq}
use Rattle.uimg_fit_building.specs.Behind.{entry}
use Rattle.uimg_fit_building.proofs.payloads.images_of.Given as goal

-- the first child `images` stands at the index or later
abbrev pub invariant-loop-node : goal.invariant-loop-node
invariant-loop-node g l =
    find (λ c. bytes_eq (codes "images") c.name) (map entry (drop l.node-index l.node-items)) ≡ find (λ c. bytes_eq (codes "images") c.name) (map entry l.node-items)
