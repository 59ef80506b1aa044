use Rattle.std.proofs.Common.{◌≡◌, map, drop}
use Rattle.uimg_blob_writing.specs.{Properties.property, Measured.bad_property}
use Rattle.uimg_blob_writing.proofs.checking.check_properties.Given as goal

-- the first bad name stands at the index or later
abbrev pub invariant-loop-prop : goal.invariant-loop-prop
invariant-loop-prop g l = bad_property (map property (drop l.prop-index l.prop-items)) ≡ bad_property (map property l.prop-items)
