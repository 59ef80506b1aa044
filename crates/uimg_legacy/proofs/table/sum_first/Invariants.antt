use Rattle.std.{proofs.Common.{◌≡◌, ◌≤◌, ◌+◌, ◌-◌, ◌*◌, ◌^◌, IsTrue}, specs.Prelude.sum_by}
use Rattle.uimg_base.specs.Device.{SameDevice}
use Rattle.uimg_texts.specs.Numbers.{up4}
use Rattle.uimg_legacy.specs.{Words.whole_words, Reading.window}
use Rattle.uimg_legacy.proofs.table.sum_first.Given as goal

-- this is the sum of the first words
abbrev pub invariant-loop-done : goal.invariant-loop-done
invariant-loop-done g l =
    let device = g.S.Source.device in
    record {
      within : l.done ≤ l.count;
      same : SameDevice (device l.fn.source) (device l.source);
      room : l.room ≡ l.fn.room;
      asked : (device l.source).asked ≤ (device l.fn.source).asked + 4 * l.done;
      failures : (device l.source).failures ≡ (device l.fn.source).failures;
      bound : l.sum ≤ 2 ^ 32 * l.done;
      sum : IsTrue (device l.fn.source).honest → l.sum ≡ sum_by up4 (whole_words (window (device l.fn.source).bytes 0 l.done));
    }

abbrev pub decreases-loop-done : goal.decreases-loop-done
decreases-loop-done g l = l.count - l.done
