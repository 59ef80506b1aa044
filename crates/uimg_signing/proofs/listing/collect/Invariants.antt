use Rattle.std.proofs.Common.{◌+◌, ◌*◌, length, ◌≡◌, ◌≤◌, ◌-◌, ◌++◌, map, drop}
use Rattle.uimg_base.specs.Device.{SameDevice}
use Rattle.uimg_blob_reading.specs.Places.{read_place}
use Rattle.uimg_signing.specs.{Sums.sum_from, Listing.{node_cost, OfTable, marks_from, marks_of, listed_times, count_listed, path_bytes, count_path_bytes}}
use Rattle.uimg_signing.proofs.listing.collect.Given as goal

-- the nodes below this one were listed
abbrev pub invariant-loop-node : goal.invariant-loop-node
invariant-loop-node g l =
    let device = g.S.Source.device in
    let d = device l.fn.source in
    record {
      same : SameDevice d (device l.source);
      failures : (device l.source).failures ≡ d.failures;
      asked : (device l.source).asked ≤ d.asked + l.node * node_cost (length l.places);
      few : length l.marks.items ≤ l.total.nodes;
      nodes_fit : l.total.nodes ≤ 100;
      bytes_fit : l.total.bytes ≤ 4096;
      room : l.room ≡ l.fn.room;
      within : l.node ≤ l.count;
      left : OfTable d l.blob l.fn.room.entries (λ rows.
          l.marks.items ++ marks_from d.bytes (map (read_place d.bytes) l.places) rows l.configuration l.node (drop l.node rows)
          ≡ marks_of d.bytes (map (read_place d.bytes) l.places) rows l.configuration);
      nodes : OfTable d l.blob l.fn.room.entries (λ rows.
          l.total.nodes + sum_from (listed_times d.bytes (map (read_place d.bytes) l.places) rows l.configuration) l.node (drop l.node rows)
          ≡ count_listed d.bytes (map (read_place d.bytes) l.places) rows l.configuration);
      bytes : OfTable d l.blob l.fn.room.entries (λ rows.
          l.total.bytes + sum_from (path_bytes d.bytes (map (read_place d.bytes) l.places) rows l.configuration) l.node (drop l.node rows)
          ≡ count_path_bytes d.bytes (map (read_place d.bytes) l.places) rows l.configuration);
    }

abbrev pub decreases-loop-node : goal.decreases-loop-node
decreases-loop-node g l = l.count - l.node
