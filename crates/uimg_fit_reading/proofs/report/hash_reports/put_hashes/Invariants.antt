use Rattle.std.proofs.Common.{◌≡◌, ◌-◌, ◌<◌, ℕ, List, length, IfSome, false}
use Rattle.std.specs.Option.{option_map_or}
use Rattle.uimg_texts.specs.Slices.{slice}
use Rattle.uimg_texts.specs.declared.naming.Naming.TheVariants.{Profile}
use Rattle.uimg_blob_reading.specs.{Grammar.Siblings, LookUps.NodeOf, Spots.Spot}
use Rattle.uimg_fit_base.specs.AlgoSets.{set_of, AreDigests}
use Rattle.uimg_fit_reading.specs.{HashReports.AllCovered, Nodes.{HashesAt, Opened}}
use Rattle.uimg_fit_reading.specs.OpenFits.{file_of, InFit, KeepsBetween}
use Rattle.uimg_fit_reading.proofs.HashReportLaws.{LinesLeft}
use Rattle.uimg_fit_reading.proofs.report.hash_reports.put_hashes.Given as goal

-- the lines of the hash nodes before the next one were written
abbrev pub invariant-loop-next : goal.invariant-loop-next
invariant-loop-next g l =
    let device = g.S.Source.device in
    let file = file_of device l.fn.fit in
    record {
      keeps : KeepsBetween false device l.fn.fit l.fit;
      faults : l.out.faults ≡ l.fn.out.faults;
      within : IfSome l.next (λ i. i < length l.fn.fit.room.now.entries);
      left : (t : Siblings) → InFit device l.fn.fit Opened t → (hs : List (NodeOf Spot)) → HashesAt t l.fn.first hs
          → (message : List ℕ) → AreDigests l.digests message → AllCovered Profile (set_of l.digests) hs
          → LinesLeft t (set_of l.digests) (slice file l.image.place l.image.length) message l.image.length hs
          (device l.fn.fit.source.now).asked (device l.fit.source.now).asked l.fn.out l.out l.are_right l.next;
    }

abbrev pub decreases-loop-next : goal.decreases-loop-next
decreases-loop-next g l = option_map_or (λ i. length l.fn.fit.room.now.entries - i) l.next 0
