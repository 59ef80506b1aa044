use Rattle.std.{proofs.Common.{◌≡◌, ◌-◌, ◌<◌, List, length, IfSome}, specs.Option.option_map_or}
use Rattle.uimg_base.specs.Device.{SameDevice}
use Rattle.uimg_blob_reading.specs.{Grammar.Siblings, LookUps.NodeOf, Spots.Spot}
use Rattle.uimg_fit_reading.specs.Nodes.{Opened, HashesAt}
use Rattle.uimg_fit_reading.proofs.HashReportLaws.{AlgosLeft}
use Rattle.uimg_fit_reading.proofs.report.digests.compared_algos.Given as goal

-- the algorithms of the nodes before the next one are in the set
abbrev pub invariant-loop-next : goal.invariant-loop-next
invariant-loop-next g l =
    let device = g.S.Source.device in
    record {
      same : SameDevice (device l.fn.source) (device l.source);
      failures : (device l.source).failures ≡ (device l.fn.source).failures;
      within : IfSome l.next (λ i. i < length l.room.entries);
      left : (t : Siblings) → Opened (device l.fn.source) l.blob l.room t → (hs : List (NodeOf Spot)) → HashesAt t l.fn.first hs
          → AlgosLeft l.fn.naming t hs (device l.fn.source).asked (device l.source).asked l.set l.next;
    }

abbrev pub decreases-loop-next : goal.decreases-loop-next
decreases-loop-next g l = option_map_or (λ i. length l.room.entries - i) l.next 0
