use Rattle.std.proofs.Common.{◌≡◌, ◌-◌, ◌<◌, ℕ, List, length, IfSome, Vec, Global}
use Rattle.std.specs.Option.{option_map_or}
use Rattle.uimg_base.specs.Device.{SameDevice}
use Rattle.uimg_blob_reading.specs.Grammar.{Siblings}
use Rattle.uimg_blob_reading.specs.LookUps.{NodeOf}
use Rattle.uimg_blob_reading.specs.Spots.{Spot}
use Rattle.uimg_fit_reading.specs.Nodes.{Opened}
use Rattle.uimg_fit_checking.specs.Survey.{name_of_node}
use Rattle.uimg_fit_checking.proofs.SurveyLaws.{Gathered}
use Rattle.uimg_strict.specs.Telling.{AnyFrom, items_of}
use Rattle.uimg_strict.proofs.node_names.node_names.Given as goal

-- the names of the nodes before the next one are read
abbrev pub invariant-loop-next : goal.invariant-loop-next
invariant-loop-next g l =
    let device = g.S.Source.device in
    record {
      same : SameDevice (device l.fn.source) (device l.source);
      failures : (device l.source).failures ≡ (device l.fn.source).failures;
      within : IfSome l.next (λ i. i < length l.room.entries);
      left : (t : Siblings) → Opened (device l.fn.source) l.blob l.room t → (all : List (NodeOf Spot)) → AnyFrom t l.fn.first all
          → Gathered (Vec ℕ Global) (List ℕ) (AnyFrom t) items_of name_of_node l.names.items l.next all;
    }

abbrev pub decreases-loop-next : goal.decreases-loop-next
decreases-loop-next g l = option_map_or (λ i. length l.room.entries - i) l.next 0
