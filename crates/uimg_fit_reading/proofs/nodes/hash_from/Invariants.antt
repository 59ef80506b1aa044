use Rattle.std.{proofs.Common.{◌-◌, ◌<◌, ℕ, List, length, IfSome}, specs.Option.option_map_or}
use Rattle.uimg_blob_reading.specs.{Grammar.Siblings, Indexed.IsIndexed, LookUps.NodeOf, Spots.Spot}
use Rattle.uimg_fit_reading.specs.Nodes.{HashesFrom}
use Rattle.uimg_fit_reading.proofs.nodes.hash_from.Given as goal

-- the children before the next one are no hash nodes
abbrev pub invariant-loop-next : goal.invariant-loop-next
invariant-loop-next g l = record {
  within : IfSome l.next (λ i. i < length l.room.entries);
  later : (n : ℕ) → IfSome l.fn.first (λ i. n < i) → IfSome l.next (λ i. n < i);
  left : (t : Siblings) → IsIndexed t l.blob l.room.entries → (hs : List (NodeOf Spot)) → HashesFrom t l.fn.first hs → HashesFrom t l.next hs;
}

abbrev pub decreases-loop-next : goal.decreases-loop-next
decreases-loop-next g l = option_map_or (λ i. length l.room.entries - i) l.next 0
