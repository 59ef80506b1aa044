use Rattle.std.proofs.Common.{◌-◌, ◌<◌, ◌≤◌, List, length, IfSome}
use Rattle.uimg_blob_reading.specs.Grammar.{Siblings}
use Rattle.uimg_blob_reading.specs.Indexed.{IsIndexed}
use Rattle.uimg_blob_reading.specs.LookUps.{NodeOf}
use Rattle.uimg_blob_reading.specs.Roles.{in_images}
use Rattle.uimg_blob_reading.specs.Spots.{Spot}
use Rattle.uimg_fit_reading.specs.Nodes.{AreFrom}
use Rattle.uimg_fit_checking.proofs.CountingLaws.{LeftCounted}
use Rattle.uimg_fit_checking.proofs.counting.count_from.Given as goal

-- the images before the next one are counted, and numbers rise
abbrev pub invariant-loop-count : goal.invariant-loop-count
invariant-loop-count g l = record {
  within : IfSome l.next (λ i. i < length l.room.entries);
  below : IfSome l.next (λ i. l.count ≤ i);
  left : (t : Siblings) → IsIndexed t l.blob l.room.entries → (found : List (NodeOf Spot)) → AreFrom t in_images l.fn.first found → LeftCounted t found l.count l.next;
}

abbrev pub decreases-loop-count : goal.decreases-loop-count
decreases-loop-count g l = l.most - l.count
