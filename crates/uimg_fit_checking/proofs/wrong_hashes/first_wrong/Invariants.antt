use Rattle.std.proofs.Common.{◌≡◌, ◌-◌, ◌<◌, ℕ, List, length, IfSome}
use Rattle.std.specs.Option.{option_map_or}
use Rattle.uimg_texts.specs.declared.naming.Naming.TheVariants as naming
use Rattle.uimg_base.specs.Device.{SameDevice}
use Rattle.uimg_blob_reading.specs.Grammar.{Siblings}
use Rattle.uimg_blob_reading.specs.LookUps.{NodeOf}
use Rattle.uimg_blob_reading.specs.Spots.{Spot}
use Rattle.uimg_fit_base.specs.AlgoSets.{set_of, AreDigests}
use Rattle.uimg_fit_reading.specs.HashReports.{AllCovered}
use Rattle.uimg_fit_reading.specs.Nodes.{Opened, HashesAt}
use Rattle.uimg_fit_checking.proofs.CheckLaws.{LeftRight}
use Rattle.uimg_fit_checking.proofs.wrong_hashes.first_wrong.Given as goal

-- the hash nodes before the next one are right
abbrev pub invariant-loop-next : goal.invariant-loop-next
invariant-loop-next g l =
    let device = g.S.Source.device in
    record {
      same : SameDevice (device l.fn.source) (device l.source);
      failures : (device l.source).failures ≡ (device l.fn.source).failures;
      within : IfSome l.next (λ i. i < length l.room.entries);
      left : (t : Siblings) → Opened (device l.fn.source) l.blob l.room t → (hs : List (NodeOf Spot)) → HashesAt t l.fn.first hs
          → (message : List ℕ) → AreDigests l.digests message → AllCovered naming.All (set_of l.digests) hs
          → LeftRight t (set_of l.digests) message hs (device l.fn.source).asked (device l.source).asked l.next;
    }

abbrev pub decreases-loop-next : goal.decreases-loop-next
decreases-loop-next g l = option_map_or (λ i. length l.room.entries - i) l.next 0
