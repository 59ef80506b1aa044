-- What a call that lists nodes requests and writes.
use Rattle.std.specs.Prelude.{ℕ, ◌+◌, ◌≤◌, List, Bool, Result, is_err}
use Rattle.uimg_base.specs.{Device.Device, Lent.Lent, Sink.Sink, Writing.Written}
use Rattle.uimg_base.specs.declared.ranges.MoveFault.{MoveFault}
use Rattle.uimg_fit_reading.specs.declared.open_fit.OpenFit.{OpenFit}

-- At most `most` bytes more were requested; a text was written, or a prefix if the call failed.
pub record ListsBetween (failed : Bool) (most : ℕ) (d e : Device) (s t : Sink) (text : List ℕ)
    : Type 0 where
  pub asked : e.asked ≤ d.asked + most
  pub written : Written failed s t text

abbrev pub Lists : {S A X : Type 0} → ℕ → Result X MoveFault → (S → Device) → Lent (OpenFit S A)
    → Lent Sink → List ℕ → Type 0
Lists most result device fit out text = ListsBetween (is_err result) most
    (device fit.entry.now.source.now) (device fit.exit.now.source.now) out.entry.now out.exit.now
    text
