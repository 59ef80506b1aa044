use Rattle.std.proofs.Common.{◌≡◌, ◌≤◌, ◌+◌, ◌*◌, ◌++◌, IsTrue}
use Rattle.uimg_base.specs.Device.{SameDevice}
use Rattle.uimg_legacy.specs.{UnpackingSteps.Walked, Told.takes_to}
use Rattle.uimg_legacy.proofs.unpacking.takes.take_parts.Given as goal

-- the first parts were taken
abbrev pub invariant-loop-number : goal.invariant-loop-number
invariant-loop-number g l =
    let device = g.S.Source.device in
    let taker = g.T.PartTaker in
    record {
      same : SameDevice (device l.fn.source) (device l.source);
      failures : (device l.source).failures ≡ (device l.fn.source).failures;
      paid : (device l.source).asked + l.fn.walk.at ≤ (device l.fn.source).asked + (4 * l.number + l.walk.at);
      within : l.walk.at ≤ l.parts.size;
      room : l.room ≡ l.fn.room;
      kept : IsTrue taker.honest → taker.kept l.taker ≡ taker.kept l.fn.taker;
      stays : taker.place l.taker ≡ taker.place l.fn.taker;
      told : IsTrue taker.notes → taker.told l.taker ≡ taker.told l.fn.taker ++ takes_to l.parts.only l.number;
      taken : Walked l.parts.only taker.honest l.number l.parts.size (device l.fn.source) l.fn.walk l.walk (taker.held l.fn.taker) (taker.held l.taker);
    }
