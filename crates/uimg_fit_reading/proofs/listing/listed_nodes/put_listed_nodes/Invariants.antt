use Rattle.std.proofs.Common.{◌≤◌, ◌<◌, List, length, IfSome, Ok}
use Rattle.uimg_blob_reading.specs.{Grammar.Siblings, LookUps.NodeOf, Spots.Spot}
use Rattle.uimg_fit_reading.specs.{Listing.numbered_lines, NodeLines.{level_of, node_lines}}
use Rattle.uimg_fit_reading.specs.{Nodes.{AreFrom, Opened}, OpenFits.InFit, Puts.LeavesBetween}
use Rattle.uimg_fit_reading.proofs.TellingLaws.{Left}
use Rattle.uimg_fit_reading.proofs.listing.listed_nodes.put_listed_nodes.Given as goal
use Rattle.uimg_fit_reading.specs.NodeLines.{naming_of}

-- the nodes before the next one are told
abbrev pub invariant-loop-number : goal.invariant-loop-number
invariant-loop-number g l =
    let device = g.S.Source.device in
    record {
      within : IfSome l.next (λ i. (l.number ≤ i) × (i < length l.fit.room.now.entries));
      leaves : LeavesBetween {X = Unit} (Ok tt) device l.fn.fit l.fit l.fn.out l.out;
      left : (t : Siblings) → InFit device l.fn.fit Opened t → (all : List (NodeOf Spot)) → AreFrom t (level_of l.kind) l.fn.first all
          → Left (naming_of l.kind) (AreFrom t (level_of l.kind)) (numbered_lines (node_lines (device l.fn.fit.source.now).bytes l.kind)) l.number l.next (device l.fn.fit.source.now) (device l.fit.source.now) l.fn.out l.out all;
    }
