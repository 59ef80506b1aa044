use Rattle.std.proofs.Common.{◌≡◌, take}
use Rattle.uimg_blob_writing.proofs.copying.copy_properties.Given as goal

-- the properties before the index were copied
abbrev pub invariant-loop-prop : goal.invariant-loop-prop
invariant-loop-prop g l = l.copies.items ≡ take l.prop-index l.prop-items
