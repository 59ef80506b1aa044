use Rattle.std.proofs.Common.{◌≡◌, ◌≤◌, ◌+◌, ◌-◌, max, length, IsTrue}
use Rattle.uimg_base.specs.Device.{SameDevice}
use Rattle.uimg_map.proofs.ReservationsLaws.{Passed}
use Rattle.uimg_map.proofs.reservations.end_of_reservations.Given as goal

-- the entries before the place were read, and none of them ends the block
abbrev pub invariant-loop-at : goal.invariant-loop-at
invariant-loop-at g l =
    let device = g.S.Source.device in
    record {
      same : SameDevice (device l.fn.source) (device l.source);
      failures : (device l.source).failures ≡ (device l.fn.source).failures;
      within : l.at ≤ max l.place l.size;
      asked : (device l.source).asked + l.place ≤ (device l.fn.source).asked + l.at;
      size : l.size ≡ length (device l.fn.source).bytes;
      passed : IsTrue (device l.fn.source).honest → Passed (device l.fn.source).bytes l.place l.at;
    }

abbrev pub decreases-loop-at : goal.decreases-loop-at
decreases-loop-at g l = l.size - l.at
