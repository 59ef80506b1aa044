use Rattle.std.proofs.Common.{◌≡◌, ◌-◌, ◌<◌, List, length, IfSome}
use Rattle.std.specs.List.{All}
use Rattle.std.specs.Option.{option_map_or}
use Rattle.uimg_base.specs.Device.{SameDevice}
use Rattle.uimg_blob_reading.specs.Grammar.{Siblings}
use Rattle.uimg_blob_reading.specs.LookUps.{NodeOf}
use Rattle.uimg_blob_reading.specs.Roles.{in_configurations}
use Rattle.uimg_blob_reading.specs.Spots.{Spot}
use Rattle.uimg_fit_checking.specs.FullSurvey.{PlacesInside}
use Rattle.uimg_fit_reading.specs.Nodes.{Opened, AreFrom}
use Rattle.uimg_fit_checking.proofs.FullSurveyLaws.{Listed}
use Rattle.uimg_fit_checking.proofs.surveying.listed_properties.gather_properties.Given as goal

-- the properties of the configurations before the next one are listed
abbrev pub invariant-loop-next : goal.invariant-loop-next
invariant-loop-next g l =
    let device = g.S.Source.device in
    record {
      same : SameDevice (device l.fn.source) (device l.source);
      failures : (device l.source).failures ≡ (device l.fn.source).failures;
      room : l.room ≡ l.fn.room;
      within : IfSome l.next (λ i. i < length l.fn.room.entries);
      ends : All (PlacesInside l.blob.totalsize) l.lists.items;
      left : (t : Siblings) → Opened (device l.fn.source) l.blob l.fn.room t → (all : List (NodeOf Spot)) → AreFrom t in_configurations l.fn.first all
          → Listed (device l.fn.source) t l.lists.items l.next all (device l.source).asked;
    }

abbrev pub decreases-loop-next : goal.decreases-loop-next
decreases-loop-next g l = option_map_or (λ i. length l.fn.room.entries - i) l.next 0
