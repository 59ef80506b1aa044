use Rattle.std.proofs.Common.{◌≡◌, ◌≤◌, ◌+◌, ◌-◌, IsTrue}
use Rattle.uimg_base.specs.{Device.SameDevice, Sink.AppendsAll}
use Rattle.uimg_texts.specs.Slices.{slice}
use Rattle.uimg_fit_reading.specs.declared.listing.lists.Line.TheVariants.{First}
use Rattle.uimg_fit_reading.specs.Lists.{emitted, line_after}
use Rattle.uimg_fit_reading.proofs.listing.lists.put_value.Given as goal

-- the first `done` bytes were asked for and written
abbrev pub invariant-loop-done : goal.invariant-loop-done
invariant-loop-done g l =
    let device = g.S.Source.device in
    record {
      bound : l.done ≤ l.span.length;
      same : SameDevice (device l.fn.source) (device l.source);
      asked : (device l.source).asked ≤ (device l.fn.source).asked + l.done;
      failures : (device l.source).failures ≡ (device l.fn.source).failures;
      faults : l.out.faults ≡ l.fn.out.faults;
      line : IsTrue (device l.fn.source).honest → l.line ≡ line_after First (slice (device l.fn.source).bytes l.span.place l.done);
      put : IsTrue (device l.fn.source).honest → AppendsAll l.fn.out l.out (emitted l.label First (slice (device l.fn.source).bytes l.span.place l.done));
    }

abbrev pub decreases-loop-done : goal.decreases-loop-done
decreases-loop-done g l = l.span.length - l.done
