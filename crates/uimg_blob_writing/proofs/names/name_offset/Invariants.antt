use Rattle.std.proofs.Common.{◌≡◌, map, drop, ◌+◌, length}
use Rattle.uimg_blob_writing.specs.Encoding.{strings, name_offset}
use Rattle.uimg_blob_writing.proofs.names.name_offset.Given as goal

-- none of the names before the index is the name, and `at` is their length
abbrev pub invariant-loop-other : goal.invariant-loop-other
invariant-loop-other l =
    let left = map (λ n. n.now) (drop l.other-index l.names) in
    let names = map (λ n. n.now) l.names in
    record {
      place : name_offset names l.name ≡ l.at + name_offset left l.name;
      rest : length (strings names) ≡ l.at + length (strings left);
    }
