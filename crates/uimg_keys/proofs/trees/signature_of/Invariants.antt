use Rattle.std.proofs.Common.{◌≡◌, ◌-◌, drop, length}
use Rattle.uimg_keys.specs.Trees.{rows_of, signature_from, signature_of}
use Rattle.uimg_keys.proofs.trees.signature_of.Given as goal

-- the nodes from this one on decide
abbrev pub invariant-loop-node : goal.invariant-loop-node
invariant-loop-node l = signature_from l.file l.node (drop l.node (rows_of l.file)) ≡ signature_of l.file

abbrev pub decreases-loop-node : goal.decreases-loop-node
decreases-loop-node l = length l.room.entries - l.node
