use Rattle.std.proofs.Common.{◌≡◌, ◌-◌, ◌++◌, drop, flat_map, length, map}
use Rattle.std.specs.List.{All}
use Rattle.uimg_keys.specs.Trees.{IsTaken, found_in, keys_in, rows_of, said}
use Rattle.uimg_keys.proofs.trees.keys_in.Given as goal

-- the keys so far and those of the nodes from this one on are all
abbrev pub invariant-loop-node : goal.invariant-loop-node
invariant-loop-node l = record {
  room : l.room ≡ l.fn.room;
  left : map said l.keys.items ++ flat_map (found_in l.file l.signature) (drop l.node (rows_of l.file)) ≡ keys_in l.file l.signature;
  taken : All (IsTaken l.file l.signature) (drop l.node (rows_of l.file)) → All (IsTaken l.file l.signature) (rows_of l.file);
}

abbrev pub decreases-loop-node : goal.decreases-loop-node
decreases-loop-node l = length l.fn.room.entries - l.node
