use Rattle.std.proofs.Common.{◌≡◌, map, drop}
use Rattle.uimg_blob_reading.specs.Keys.{key_of_name, key_row_of}
use Rattle.uimg_blob_reading.proofs.keys.key_in.Given as goal

-- no row before the index has the name
abbrev pub invariant-loop-known : goal.invariant-loop-known
invariant-loop-known l = key_of_name (map key_row_of (drop l.known-index l.rows)) l.name ≡ key_of_name (map key_row_of l.rows) l.name
