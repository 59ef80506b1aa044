use Rattle.std.proofs.Common.{◌≡◌, map, drop}
use Rattle.uimg_blob_writing.specs.{Encoding.with_names, Properties.property}
use Rattle.uimg_blob_writing.proofs.names.add_names.Given as goal

-- what the properties from the index on add to the names so far is what all add
abbrev pub invariant-loop-prop : goal.invariant-loop-prop
invariant-loop-prop g l =
    with_names (map (λ n. n.now) l.names.items) (map property (drop l.prop-index l.prop-items))
    ≡ with_names (map (λ n. n.now) l.fn.names.items) (map property l.prop-items)
