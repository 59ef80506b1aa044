use Rattle.std.proofs.Common.{◌≡◌, ◌≤◌, ◌+◌, ◌*◌, map, drop, IsTrue}
use Rattle.uimg_base.specs.Device.{SameDevice}
use Rattle.uimg_blob_reading.specs.Places.{read_place}
use Rattle.uimg_signing.specs.Naming.{times, times_at}
use Rattle.uimg_signing.proofs.naming.times_at.Given as goal

-- what is left says the same
abbrev pub invariant-loop-place : goal.invariant-loop-place
invariant-loop-place g l =
    let device = g.S.Source.device in
    let d = device l.fn.source in
    record {
      same : SameDevice d (device l.source);
      failures : (device l.source).failures ≡ d.failures;
      asked : (device l.source).asked ≤ (device l.fn.source).asked + 8447 * l.place-index;
      room : l.room ≡ l.fn.room;
      few : l.found ≤ 8192 * l.place-index;
      left : IsTrue d.honest → l.found + times d.bytes l.wanted (map (read_place d.bytes) (drop l.place-index l.places)) ≡ times_at d.bytes l.wanted l.places;
    }
