use Rattle.std.proofs.Common.{◌≡◌, ◌≤◌, ◌+◌, ◌*◌, drop, IsTrue}
use Rattle.uimg_base.specs.Device.{SameDevice}
use Rattle.uimg_signing.proofs.FindLaws.{first_at}
use Rattle.uimg_signing.proofs.properties.value_named.Given as goal

-- what is left says the same
abbrev pub invariant-loop-place : goal.invariant-loop-place
invariant-loop-place g l =
    let device = g.S.Source.device in
    let d = device l.fn.source in
    record {
      same : SameDevice d (device l.source);
      failures : (device l.source).failures ≡ d.failures;
      asked : (device l.source).asked ≤ d.asked + 255 * l.place-index;
      left : IsTrue d.honest → first_at d.bytes l.wanted (drop l.place-index l.places) ≡ first_at d.bytes l.wanted l.places;
    }
