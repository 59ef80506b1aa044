use Rattle.std.proofs.Common.{◌≡◌, ◌++◌, drop, None}
use Rattle.uimg_map.specs.Signing.{first_from}
use Rattle.uimg_map.proofs.signing.first_nodes.Given as goal

-- the nodes so far and the first ones of those that are left are all
abbrev pub invariant-loop-node : goal.invariant-loop-node
invariant-loop-node l = l.nodes.items ++ first_from l.last (drop l.node-index l.all) ≡ first_from None l.all
