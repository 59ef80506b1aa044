use Rattle.std.proofs.Common.{◌≡◌, ◌≤◌, ◌-◌}
use Rattle.uimg_base.specs.{Device.{SameDevice, asked_more}, Ranges.TakesRange}
use Rattle.uimg_base.proofs.ranges.take_through.Given as goal

-- the first `done` bytes were asked for, summed and written
abbrev pub invariant-loop-done : goal.invariant-loop-done
invariant-loop-done g l =
    let device = g.S.Source.device in
    record {
      bound : l.done ≤ l.len;
      same : SameDevice (device l.fn.source) (device l.source);
      asked : (device l.source).asked ≡ asked_more (device l.fn.source).asked l.done;
      failures : (device l.source).failures ≡ (device l.fn.source).failures;
      faults : l.out.faults ≡ l.fn.out.faults;
      taken : TakesRange g.M.Sums.fed (device l.fn.source) l.at l.done l.fn.sums l.sums l.fn.out l.out;
    }

abbrev pub decreases-loop-done : goal.decreases-loop-done
decreases-loop-done g l = l.len - l.done
