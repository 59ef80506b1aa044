use Rattle.std.proofs.Common.{◌≡◌, ◌-◌, length, drop}
use Rattle.uimg_base.specs.Device.{SameDevice}
use Rattle.uimg_blob_reading.specs.Grammar.{Siblings}
use Rattle.uimg_blob_reading.specs.Spots.{spots}
use Rattle.uimg_fit_reading.specs.Nodes.{Opened}
use Rattle.uimg_strict.specs.Looseness.{all_nodes, first_found, loose_node}
use Rattle.uimg_strict.proofs.nodes.first_loose_node.Given as goal

-- nothing is refused of the nodes before the next one
abbrev pub invariant-loop-node : goal.invariant-loop-node
invariant-loop-node g l =
    let device = g.S.Source.device in
    record {
      same : SameDevice (device l.fn.source) (device l.source);
      failures : (device l.source).failures ≡ (device l.fn.source).failures;
      room : l.room ≡ l.fn.room;
      most : l.most ≡ length l.fn.room.entries;
      left : (t : Siblings) → Opened (device l.fn.source) l.blob l.fn.room t
          → first_found loose_node (drop l.node (all_nodes (spots t))) ≡ first_found loose_node (all_nodes (spots t));
    }

abbrev pub decreases-loop-node : goal.decreases-loop-node
decreases-loop-node g l = l.most - l.node
