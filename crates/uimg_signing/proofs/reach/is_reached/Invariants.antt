use Rattle.std.proofs.Common.{◌+◌, ◌*◌, length, ◌≡◌, ◌≤◌, ◌-◌, drop}
use Rattle.uimg_base.specs.Device.{SameDevice}
use Rattle.uimg_signing.specs.{Listing.OfTable, Reach.{is_reached, takes_from}}
use Rattle.uimg_signing.proofs.reach.is_reached.Given as goal

-- the nodes from this one on decide
abbrev pub invariant-loop-node : goal.invariant-loop-node
invariant-loop-node g l =
    let device = g.S.Source.device in
    let d = device l.fn.source in
    record {
      same : SameDevice d (device l.source);
      failures : (device l.source).failures ≡ d.failures;
      asked : (device l.source).asked ≤ d.asked + l.node * 255;
      within : l.node ≤ length l.room.entries;
      left : OfTable d l.blob l.room.entries (λ rows.
          takes_from d.bytes rows l.node (drop l.node rows) ≡ is_reached d.bytes rows);
    }

abbrev pub decreases-loop-node : goal.decreases-loop-node
decreases-loop-node g l = length l.room.entries - l.node
