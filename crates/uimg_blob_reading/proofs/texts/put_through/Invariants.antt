use Rattle.std.proofs.Common.{◌≡◌, ◌≤◌, ◌+◌, ◌-◌, None, IsTrue}
use Rattle.uimg_base.specs.{Device.SameDevice, Sink.AppendsAll}
use Rattle.uimg_texts.specs.{Nul.before_nul, Slices.slice}
use Rattle.uimg_blob_reading.proofs.texts.put_through.Given as goal

-- the first `done` bytes were asked for and written, and have no NUL
abbrev pub invariant-loop-done : goal.invariant-loop-done
invariant-loop-done g l =
    let device = g.S.Source.device in
    record {
      bound : l.done ≤ l.span.length;
      same : SameDevice (device l.fn.source) (device l.source);
      asked : (device l.source).asked ≤ (device l.fn.source).asked + l.done;
      failures : (device l.source).failures ≡ (device l.fn.source).failures;
      faults : l.out.faults ≡ l.fn.out.faults;
      without : IsTrue (device l.fn.source).honest → before_nul (slice (device l.fn.source).bytes l.span.place l.done) ≡ None;
      put : IsTrue (device l.fn.source).honest → AppendsAll l.fn.out l.out (slice (device l.fn.source).bytes l.span.place l.done);
    }

abbrev pub decreases-loop-done : goal.decreases-loop-done
decreases-loop-done g l = l.span.length - l.done
