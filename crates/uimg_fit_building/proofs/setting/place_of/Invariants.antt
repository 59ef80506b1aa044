use Rattle.std.proofs.Common.{◌≡◌, map, drop, take, ◌++◌}
use Rattle.uimg_blob_writing.specs.{Content.Content, Properties.property}
use Rattle.uimg_fit_building.specs.Filling.{with}
use Rattle.uimg_fit_building.proofs.setting.place_of.Given as goal

-- no property before the index has the name
abbrev pub invariant-loop-i : goal.invariant-loop-i
invariant-loop-i g l = (value : Content) → with l.key value (map property l.props)
    ≡ map property (take l.i l.props) ++ with l.key value (map property (drop l.i l.props))
