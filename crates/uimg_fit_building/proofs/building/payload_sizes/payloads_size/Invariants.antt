use Rattle.std.proofs.Common.{◌≡◌, ◌+◌, ◌≤◌, ◌^◌, min, map, drop}
use Rattle.uimg_fit_building.specs.Behind.{entry, padded_sizes}
use Rattle.uimg_fit_building.proofs.building.payload_sizes.payloads_size.Given as goal

-- the size so far and that of the images from the index on are the whole
abbrev pub invariant-loop-image : goal.invariant-loop-image
invariant-loop-image g l = record {
  small : l.size ≤ 2 ^ 36;
  whole : min (l.size + padded_sizes l.fn.align (map entry (drop l.image-index l.images))) (2 ^ 36) ≡ min (padded_sizes l.fn.align (map entry l.images)) (2 ^ 36);
}
