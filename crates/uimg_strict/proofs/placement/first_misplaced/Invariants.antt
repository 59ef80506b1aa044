use Rattle.std.proofs.Common.{◌≡◌, ◌-◌, ◌<◌, List, length, IfSome}
use Rattle.std.specs.Option.{option_map_or}
use Rattle.uimg_base.specs.Device.{SameDevice}
use Rattle.uimg_blob_reading.specs.Grammar.{Siblings}
use Rattle.uimg_blob_reading.specs.LookUps.{NodeOf}
use Rattle.uimg_blob_reading.specs.Roles.{in_images}
use Rattle.uimg_blob_reading.specs.Spots.{Spot}
use Rattle.uimg_fit_reading.specs.Nodes.{Opened, AreFrom}
use Rattle.uimg_texts.specs.Numbers.{be32}
use Rattle.uimg_strict.proofs.PlacementLaws.{LeftPlaced}
use Rattle.uimg_strict.proofs.placement.first_misplaced.Given as goal

-- no payload before the next one is misplaced
abbrev pub invariant-loop-next : goal.invariant-loop-next
invariant-loop-next g l =
    let device = g.S.Source.device in
    let file = (device l.fn.source).bytes in
    record {
      same : SameDevice (device l.fn.source) (device l.source);
      failures : (device l.source).failures ≡ (device l.fn.source).failures;
      within : IfSome l.next (λ i. i < length l.room.entries);
      left : (t : Siblings) → Opened (device l.fn.source) l.blob l.room t → (all : List (NodeOf Spot)) → AreFrom t in_images l.fn.first all
          → LeftPlaced file t (be32 file 4) l.end l.next all;
    }

abbrev pub decreases-loop-next : goal.decreases-loop-next
decreases-loop-next g l = option_map_or (λ i. length l.room.entries - i) l.next 0
