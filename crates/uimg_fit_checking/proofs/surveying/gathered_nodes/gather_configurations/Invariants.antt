use Rattle.std.proofs.Common.{◌-◌, ◌<◌, ℕ, List, length, IfSome}
use Rattle.std.specs.List.{All}
use Rattle.std.specs.Option.{option_map_or}
use Rattle.uimg_blob_reading.specs.Grammar.{Siblings}
use Rattle.uimg_blob_reading.specs.LookUps.{NodeOf}
use Rattle.uimg_blob_reading.specs.Roles.{in_configurations}
use Rattle.uimg_blob_reading.specs.Spots.{Spot}
use Rattle.uimg_fit_checking.specs.declared.surveying.facts.ConfigurationFacts.{ConfigurationFacts}
use Rattle.uimg_fit_reading.specs.Nodes.{InFile, IsRead, AreFrom}
use Rattle.uimg_fit_checking.specs.Survey.{ConfigurationSaid, read_configuration, configuration_said}
use Rattle.uimg_fit_checking.specs.SurveyParts.{ConfigurationInside}
use Rattle.uimg_fit_checking.proofs.SurveyLaws.{Gathered}
use Rattle.uimg_fit_checking.proofs.surveying.gathered_nodes.gather_configurations.Given as goal

-- what the nodes before the next one say is gathered
abbrev pub invariant-loop-next : goal.invariant-loop-next
invariant-loop-next g l = record {
  within : IfSome l.next (λ i. i < length l.room.entries);
  inside : (size : ℕ) → InFile size l.blob l.room.entries → All (ConfigurationInside size) l.facts.items;
  left : (file : List ℕ) (t : Siblings) → IsRead file l.blob l.room.entries t → (all : List (NodeOf Spot)) → AreFrom t in_configurations l.fn.first all
      → Gathered ConfigurationFacts ConfigurationSaid (AreFrom t in_configurations) (read_configuration file) configuration_said l.facts.items l.next all;
}

abbrev pub decreases-loop-next : goal.decreases-loop-next
decreases-loop-next g l = option_map_or (λ i. length l.room.entries - i) l.next 0
