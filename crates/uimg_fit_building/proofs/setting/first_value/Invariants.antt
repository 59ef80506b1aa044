use Rattle.std.proofs.Common.{◌≡◌, map, drop}
use Rattle.uimg_blob_reading.specs.LookUps.{first}
use Rattle.uimg_blob_writing.specs.Properties.{property}
use Rattle.uimg_fit_building.proofs.setting.first_value.Given as goal

-- no property before the index has the name
abbrev pub invariant-loop-prop : goal.invariant-loop-prop
invariant-loop-prop g l = first (map property (drop l.prop-index l.prop-items)) l.key ≡ first (map property l.prop-items) l.key
