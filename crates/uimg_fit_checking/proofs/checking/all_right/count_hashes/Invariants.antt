use Rattle.std.proofs.Common.{◌-◌, ◌<◌, List, length, IfSome}
use Rattle.uimg_blob_reading.specs.Grammar.{Siblings}
use Rattle.uimg_blob_reading.specs.Indexed.{IsIndexed}
use Rattle.uimg_blob_reading.specs.LookUps.{NodeOf}
use Rattle.uimg_blob_reading.specs.Spots.{Spot}
use Rattle.uimg_fit_reading.specs.Nodes.{HashesAt}
use Rattle.uimg_fit_checking.proofs.CheckCountLaws.{LeftHashes}
use Rattle.uimg_fit_checking.proofs.checking.all_right.count_hashes.Given as goal

-- the hash nodes before the next one are counted
abbrev pub invariant-loop-count : goal.invariant-loop-count
invariant-loop-count g l = record {
  within : IfSome l.next (λ i. i < length l.room.entries);
  left : (t : Siblings) → IsIndexed t l.blob l.room.entries → (hs : List (NodeOf Spot)) → HashesAt t l.fn.first hs → LeftHashes t hs l.fn.before l.count l.next;
}

abbrev pub decreases-loop-count : goal.decreases-loop-count
decreases-loop-count g l = l.most - l.count
