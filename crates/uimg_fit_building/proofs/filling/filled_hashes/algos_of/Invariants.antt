use Rattle.std.{proofs.Common.{◌≡◌, map, drop}, specs.List.filter}
use Rattle.uimg_blob_reading.specs.Roles.{is_hash}
use Rattle.uimg_fit_building.specs.{Behind.entry, PayloadSums.all_marked}
use Rattle.uimg_fit_base.specs.AlgoSets.{no_algos}
use Rattle.uimg_fit_building.proofs.filling.filled_hashes.algos_of.Given as goal

-- the set so far with the algorithms of what is left is the set of all
abbrev pub invariant-loop-node : goal.invariant-loop-node
invariant-loop-node g l =
    all_marked l.naming l.set (filter (λ h. is_hash h.name) (map entry (drop l.node-index l.nodes)))
    ≡ all_marked l.naming no_algos (filter (λ h. is_hash h.name) (map entry l.nodes))
