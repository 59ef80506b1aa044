use Rattle.std.proofs.Common.{◌≡◌, ◌++◌, IsTrue}
use Rattle.uimg_legacy.specs.Told.{claims_to}
use Rattle.uimg_legacy.proofs.unpacking.taken_data.claim_parts.Given as goal

-- the lists are what they were, and the first parts were claimed
abbrev pub invariant-loop-number : goal.invariant-loop-number
invariant-loop-number g l =
    let taker = g.T.PartTaker in
    record {
      held : IsTrue taker.honest → taker.held l.taker ≡ taker.held l.fn.taker;
      kept : IsTrue taker.honest → taker.kept l.taker ≡ taker.kept l.fn.taker;
      stays : taker.place l.taker ≡ taker.place l.fn.taker;
      told : IsTrue taker.notes → taker.told l.taker ≡ taker.told l.fn.taker ++ claims_to l.number;
    }
