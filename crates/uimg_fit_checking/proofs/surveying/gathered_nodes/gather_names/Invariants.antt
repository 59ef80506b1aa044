use Rattle.std.proofs.Common.{◌-◌, ◌<◌, ℕ, List, length, IfSome}
use Rattle.std.specs.List.{All}
use Rattle.std.specs.Option.{option_map_or}
use Rattle.uimg_base.specs.declared.spans.Span.{Span}
use Rattle.uimg_blob_reading.specs.Grammar.{Siblings}
use Rattle.uimg_blob_reading.specs.LookUps.{NodeOf}
use Rattle.uimg_blob_reading.specs.Roles.{in_image}
use Rattle.uimg_blob_reading.specs.Spots.{Spot}
use Rattle.uimg_fit_reading.specs.Nodes.{InFile, IsRead, AreFrom}
use Rattle.uimg_fit_checking.specs.Survey.{name_of_node, read_name}
use Rattle.uimg_fit_checking.specs.SurveyParts.{NameInside}
use Rattle.uimg_fit_checking.proofs.SurveyLaws.{Gathered}
use Rattle.uimg_fit_checking.proofs.surveying.gathered_nodes.gather_names.Given as goal

-- the names of the nodes before the next one are gathered
abbrev pub invariant-loop-next : goal.invariant-loop-next
invariant-loop-next g l = record {
  within : IfSome l.next (λ i. i < length l.room.entries);
  inside : (size : ℕ) → InFile size l.blob l.room.entries → All (NameInside size) l.names.items;
  left : (file : List ℕ) (t : Siblings) → IsRead file l.blob l.room.entries t → (all : List (NodeOf Spot)) → AreFrom t in_image l.fn.first all
      → Gathered Span (List ℕ) (AreFrom t in_image) (read_name file) name_of_node l.names.items l.next all;
}

abbrev pub decreases-loop-next : goal.decreases-loop-next
decreases-loop-next g l = option_map_or (λ i. length l.room.entries - i) l.next 0
