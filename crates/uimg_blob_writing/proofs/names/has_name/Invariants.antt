use Rattle.std.{proofs.Common.{◌≡◌, map, drop}, specs.{List.list_any, Str.bytes_eq}}
use Rattle.uimg_blob_writing.proofs.names.has_name.Given as goal

-- none of the names before the index is the name
abbrev pub invariant-loop-other : goal.invariant-loop-other
invariant-loop-other l = list_any (bytes_eq l.name) (map (λ n. n.now) l.names) ≡ list_any (bytes_eq l.name) (map (λ n. n.now) (drop l.other-index l.names))
