use Rattle.std.proofs.Common.{◌-◌, ◌<◌, List, length, IfSome}
use Rattle.std.specs.Option.{option_map_or}
use Rattle.uimg_blob_reading.specs.Grammar.{Siblings}
use Rattle.uimg_blob_reading.specs.Indexed.{IsIndexed}
use Rattle.uimg_blob_reading.specs.LookUps.{NodeOf}
use Rattle.uimg_blob_reading.specs.Roles.{in_images}
use Rattle.uimg_blob_reading.specs.Spots.{Spot}
use Rattle.uimg_fit_reading.specs.Nodes.{AreFrom}
use Rattle.uimg_fit_checking.proofs.CheckCountLaws.{LeftSummed}
use Rattle.uimg_fit_checking.proofs.checking.all_right.count_all.Given as goal

-- the hash nodes of the images before the next one are counted
abbrev pub invariant-loop-next : goal.invariant-loop-next
invariant-loop-next g l = record {
  within : IfSome l.next (λ i. i < length l.room.entries);
  left : (t : Siblings) → IsIndexed t l.blob l.room.entries → (found : List (NodeOf Spot)) → AreFrom t in_images l.fn.first found → LeftSummed t found (length l.room.entries) l.count l.next;
}

abbrev pub decreases-loop-next : goal.decreases-loop-next
decreases-loop-next g l = option_map_or (λ i. length l.room.entries - i) l.next 0
