use Rattle.std.proofs.Common.{◌≡◌, ◌-◌, ◌^◌, length, min, take, sum_by}
use Rattle.uimg_checks.proofs.judging.count_nodes.Given as goal

-- the nodes of the configurations so far
abbrev pub invariant-loop-configuration : goal.invariant-loop-configuration
invariant-loop-configuration l =
    l.count ≡ min (sum_by (λ c. length c.nodes.items) (take l.configuration-index l.configurations)) (2 ^ 64 - 1)
