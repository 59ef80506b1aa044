use Rattle.std.proofs.Common.{◌≡◌, ◌-◌, ◌<◌, List, length, IfSome, false}
use Rattle.std.specs.Option.{option_map_or}
use Rattle.uimg_blob_reading.specs.{Grammar.Siblings, LookUps.NodeOf, Roles.in_images, Spots.Spot}
use Rattle.uimg_fit_reading.specs.{Nodes.{AreFrom, Opened}, OpenFits.{file_of, InFit, KeepsBetween}}
use Rattle.uimg_fit_reading.proofs.ImageReportLaws.{ImagesLeft}
use Rattle.uimg_fit_reading.proofs.report.image_reports.report_images.Given as goal

-- what is told of the images from the next one on is told of all
abbrev pub invariant-loop-next : goal.invariant-loop-next
invariant-loop-next g l =
    let device = g.S.Source.device in
    record {
      keeps : KeepsBetween false device l.fn.fit l.fit;
      faults : l.out.faults ≡ l.fn.out.faults;
      within : IfSome l.next (λ i. i < length l.fn.fit.room.now.entries);
      left : (t : Siblings) → InFit device l.fn.fit Opened t → (found : List (NodeOf Spot)) → AreFrom t in_images l.fn.first found
          → ImagesLeft t (file_of device l.fn.fit) found (device l.fn.fit.source.now).asked (device l.fit.source.now).asked l.fn.out l.out l.are_right l.next;
    }

abbrev pub decreases-loop-next : goal.decreases-loop-next
decreases-loop-next g l = option_map_or (λ i. length l.fn.fit.room.now.entries - i) l.next 0
