use Rattle.std.proofs.Common.{◌≡◌, ◌≤◌, ◌+◌, ◌*◌, length, IsTrue}
use Rattle.uimg_base.specs.Device.{SameDevice}
use Rattle.uimg_legacy.specs.Parts.{sizes}
use Rattle.uimg_texts.specs.Slices.{slice}
use Rattle.uimg_map.proofs.legacy_contents.count_sizes.Given as goal

-- each word before this one is a size
abbrev pub invariant-loop-number : goal.invariant-loop-number
invariant-loop-number g l =
    let device = g.S.Source.device in
    record {
      same : SameDevice (device l.fn.source) (device l.source);
      asked : (device l.source).asked ≤ (device l.fn.source).asked + 4 * l.number;
      failures : (device l.source).failures ≡ (device l.fn.source).failures;
      before : IsTrue (device l.fn.source).honest → l.number ≤ length (sizes (slice (device l.fn.source).bytes 64 l.size));
    }
