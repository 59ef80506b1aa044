use Rattle.std.proofs.Common.{◌≡◌, ◌≤◌, ◌+◌, ◌-◌, ◌*◌, ◌^◌, length, IsTrue, Option}
use Rattle.uimg_base.specs.{Device.SameDevice, Sink.Sink, Outcome.{End, Tells}}
use Rattle.uimg_texts.specs.Slices.{slice}
use Rattle.uimg_legacy.specs.{declared.fault.LegacyFault.LegacyFault, Parts.{sizes, start}}
use Rattle.uimg_legacy.specs.Listing.{part_lines}
use Rattle.uimg_legacy.proofs.listing.list_parts.Given as goal

-- what is told of the parts from i on is told of all
abbrev pub invariant-loop-i : goal.invariant-loop-i
invariant-loop-i g l =
    let device = g.S.Source.device in
    let data_of = slice (device l.fn.source).bytes 64 l.size in
    record {
      same : SameDevice (device l.fn.source) (device l.source);
      asked : (device l.source).asked ≤ (device l.fn.source).asked + 4 * l.i;
      failures : (device l.source).failures ≡ (device l.fn.source).failures;
      faults : l.out.faults ≡ l.fn.out.faults;
      bound : l.start ≤ 4 * (l.count + 1) + 2 ^ 32 * l.i;
      start : IsTrue (device l.fn.source).honest → l.count ≡ length (sizes data_of) → l.start ≡ start (sizes data_of) l.i;
      told : IsTrue (device l.fn.source).honest → l.count ≡ length (sizes data_of) → (e : Option (End LegacyFault)) (t : Sink) → Tells e (part_lines data_of (sizes data_of) (l.count - l.i) l.i) l.out t → Tells e (part_lines data_of (sizes data_of) l.count 0) l.fn.out t;
    }
