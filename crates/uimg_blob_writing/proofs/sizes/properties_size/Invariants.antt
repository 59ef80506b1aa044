use Rattle.std.proofs.Common.{◌≡◌, ◌+◌, ◌≤◌, ◌^◌, min, map, drop}
use Rattle.uimg_blob_writing.specs.{Layouts.properties_size, Properties.property}
use Rattle.uimg_blob_writing.proofs.sizes.properties_size.Given as goal

-- the size so far and that of the properties from the index on are the whole
abbrev pub invariant-loop-prop : goal.invariant-loop-prop
invariant-loop-prop g l = record {
  small : l.size ≤ 2 ^ 36;
  whole : min (l.size + properties_size (map property (drop l.prop-index l.prop-items))) (2 ^ 36) ≡ min (properties_size (map property l.prop-items)) (2 ^ 36);
}
