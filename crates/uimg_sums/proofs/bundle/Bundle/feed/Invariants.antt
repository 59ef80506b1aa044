use Rattle.std.{proofs.Common.{◌≡◌, ℕ, List, ◌++◌, map, length}, specs.List.{All, AllWithin}}
use Rattle.std.specs.Option.{option_map}
use Rattle.uimg_sums.specs.{AnySum.algo_of, Bundle.SlotHolds}
use Rattle.uimg_sums.proofs.bundle.Bundle.feed.Given as goal

-- the sums below the index were fed, and those from it on were not
abbrev pub invariant-loop-slot : goal.invariant-loop-slot
invariant-loop-slot l = record {
  long : length l.slot-items ≡ 8;
  order : map (option_map algo_of) l.slot-items ≡ map (option_map algo_of) l.fn.self.sums;
  fed : (fed : List ℕ) → All (SlotHolds fed) l.fn.self.sums → AllWithin (SlotHolds (fed ++ l.bytes)) l.slot-items 0 l.slot-index;
  rest : (fed : List ℕ) → All (SlotHolds fed) l.fn.self.sums → AllWithin (SlotHolds fed) l.slot-items l.slot-index 8;
}
