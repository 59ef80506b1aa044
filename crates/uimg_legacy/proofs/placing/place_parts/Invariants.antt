use Rattle.std.proofs.Common.{◌≡◌, ◌≤◌, ◌+◌, ◌-◌, ◌*◌, ◌^◌, length, IsTrue}
use Rattle.uimg_base.specs.Device.{SameDevice}
use Rattle.uimg_texts.specs.Slices.{slice}
use Rattle.uimg_legacy.specs.{Parts.{sizes, start}, Placing.{spans_before, places}}
use Rattle.uimg_legacy.proofs.placing.place_parts.Given as goal

-- the places so far and those from i on are all
abbrev pub invariant-loop-i : goal.invariant-loop-i
invariant-loop-i g l =
    let device = g.S.Source.device in
    let data_of = slice (device l.fn.source).bytes 64 l.size in
    record {
      same : SameDevice (device l.fn.source) (device l.source);
      asked : (device l.source).asked ≤ (device l.fn.source).asked + 4 * l.i;
      failures : (device l.source).failures ≡ (device l.fn.source).failures;
      bound : l.start ≤ 4 * (l.count + 1) + 2 ^ 32 * l.i;
      start : IsTrue (device l.fn.source).honest → l.count ≡ length (sizes data_of) → l.start ≡ start (sizes data_of) l.i;
      told : IsTrue (device l.fn.source).honest → l.count ≡ length (sizes data_of) → places data_of (sizes data_of) l.count 0 ≡ spans_before l.parts.items (places data_of (sizes data_of) (l.count - l.i) l.i);
    }
