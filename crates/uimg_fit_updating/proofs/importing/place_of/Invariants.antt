use Rattle.std.proofs.Common.{◌≡◌, map, drop, take, ◌++◌}
use Rattle.uimg_blob_reading.specs.Plain.{NamedOf}
use Rattle.uimg_blob_writing.specs.{Content.Content, Properties.property}
use Rattle.uimg_fit_updating.specs.Importing.{replaced}
use Rattle.uimg_fit_updating.proofs.importing.place_of.Given as goal

-- no property before the index has the name
abbrev pub invariant-loop-i : goal.invariant-loop-i
invariant-loop-i l = (q : NamedOf Content) → replaced l.key q (map property l.props)
    ≡ map property (take l.i l.props) ++ replaced l.key q (map property (drop l.i l.props))
