use Rattle.std.proofs.Common.{◌≡◌, ◌≤◌, ◌+◌, ◌-◌, ◌*◌, length, IsTrue}
use Rattle.uimg_base.specs.Device.{SameDevice}
use Rattle.uimg_texts.specs.Slices.{slice}
use Rattle.uimg_legacy.specs.{Parts.sizes, UnpackingSteps.SumsPieceBetween}
use Rattle.uimg_legacy.proofs.unpacking.tables.sum_table.Given as goal

-- the first words, as many as were asked for and summed, are not zero
abbrev pub invariant-loop-counted : goal.invariant-loop-counted
invariant-loop-counted g l =
    let device = g.S.Source.device in
    record {
      bound : l.counted ≤ l.words;
      same : SameDevice (device l.fn.source) (device l.source);
      room : l.room ≡ l.fn.room;
      asked : (device l.source).asked ≤ (device l.fn.source).asked + 4 * l.counted;
      failures : (device l.source).failures ≡ (device l.fn.source).failures;
      sizes : IsTrue (device l.fn.source).honest → l.counted ≤ length (sizes (slice (device l.fn.source).bytes 64 l.size));
      summed : SumsPieceBetween (device l.fn.source) 64 (4 * l.counted) l.fn.sum l.sum;
    }

abbrev pub decreases-loop-counted : goal.decreases-loop-counted
decreases-loop-counted g l = l.words - l.counted
