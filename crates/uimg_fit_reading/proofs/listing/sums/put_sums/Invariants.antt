use Rattle.std.{proofs.Common.{◌-◌, ◌<◌, List, length, IfSome, Ok}, specs.List.flat_map}
use Rattle.std.specs.Option.{option_map_or}
use Rattle.uimg_blob_reading.specs.{Grammar.Siblings, LookUps.NodeOf, Roles.in_image, Spots.Spot}
use Rattle.uimg_fit_reading.specs.{Listing.sum_lines, Nodes.{AreFrom, Opened}}
use Rattle.uimg_fit_reading.specs.{OpenFits.InFit, Puts.LeavesBetween}
use Rattle.uimg_fit_reading.proofs.TellingLaws.{Left}
use Rattle.uimg_fit_reading.proofs.listing.sums.put_sums.Given as goal

-- the children before the next one are told
abbrev pub invariant-loop-next : goal.invariant-loop-next
invariant-loop-next g l =
    let device = g.S.Source.device in
    record {
      within : IfSome l.next (λ i. i < length l.fit.room.now.entries);
      leaves : LeavesBetween {X = Unit} (Ok tt) device l.fn.fit l.fit l.fn.out l.out;
      left : (t : Siblings) → InFit device l.fn.fit Opened t → (all : List (NodeOf Spot)) → AreFrom t in_image l.fn.first all
          → Left l.naming (AreFrom t in_image) (λ i ns. flat_map (sum_lines l.naming) ns) 0 l.next (device l.fn.fit.source.now) (device l.fit.source.now) l.fn.out l.out all;
    }

abbrev pub decreases-loop-next : goal.decreases-loop-next
decreases-loop-next g l = option_map_or (λ i. length l.fit.room.now.entries - i) l.next 0
