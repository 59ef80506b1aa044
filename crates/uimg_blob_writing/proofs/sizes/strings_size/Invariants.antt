use Rattle.std.proofs.Common.{◌≡◌, ◌+◌, ◌≤◌, ◌^◌, min, map, drop, length}
use Rattle.uimg_blob_writing.specs.Encoding.{strings}
use Rattle.uimg_blob_writing.proofs.sizes.strings_size.Given as goal

-- the size so far and that of the names from the index on are the whole
abbrev pub invariant-loop-name : goal.invariant-loop-name
invariant-loop-name l = record {
  small : l.size ≤ 2 ^ 36;
  whole : min (l.size + length (strings (map (λ n. n.now) (drop l.name-index l.names)))) (2 ^ 36) ≡ min (length (strings (map (λ n. n.now) l.names))) (2 ^ 36);
}
