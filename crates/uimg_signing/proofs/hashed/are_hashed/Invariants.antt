use Rattle.std.proofs.Common.{◌+◌, ◌*◌, length, ◌≡◌, ◌≤◌, ◌-◌, map, drop}
use Rattle.uimg_base.specs.Device.{SameDevice}
use Rattle.uimg_blob_reading.specs.Places.{read_place}
use Rattle.uimg_signing.specs.{Hashed.{are_hashed, hashed_from}, Listing.{node_cost, OfTable}}
use Rattle.uimg_signing.proofs.hashed.are_hashed.Given as goal

-- the nodes from this one on decide
abbrev pub invariant-loop-node : goal.invariant-loop-node
invariant-loop-node g l =
    let device = g.S.Source.device in
    let d = device l.fn.source in
    record {
      same : SameDevice d (device l.source);
      failures : (device l.source).failures ≡ d.failures;
      asked : (device l.source).asked ≤ d.asked + l.node * node_cost (length l.places);
      room : l.room ≡ l.fn.room;
      within : l.node ≤ l.count;
      left : OfTable d l.blob l.fn.room.entries (λ rows.
          hashed_from d.bytes (map (read_place d.bytes) l.places) rows l.node l.has_any (drop l.node rows)
          ≡ are_hashed d.bytes (map (read_place d.bytes) l.places) rows);
    }

abbrev pub decreases-loop-node : goal.decreases-loop-node
decreases-loop-node g l = l.count - l.node
