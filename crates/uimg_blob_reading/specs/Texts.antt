-- Texts as written, and short texts as read.
use Rattle.std.specs.Prelude.{◌≡◌, ◌<◌, ℕ, List, length, take, Option, Some, None, Result, is_err}
use Rattle.std.specs.Prelude.{IsTrue}
use Rattle.uimg_texts.specs.{Nul.text, Slices.slice}
use Rattle.uimg_base.specs.{declared.ranges.MoveFault.MoveFault, Device.{Device, RisesIf}}
use Rattle.uimg_base.specs.{Sink.Sink, Using.Asks, Writing.Written, Ranges.{is_read, is_put}}

-- The text in these bytes was written, at most these bytes were requested, faults were counted.
pub record PutsText {X : Type 0} (at count : ℕ) (result : Result X MoveFault) (d e : Device)
    (s t : Sink) : Type 0 where
  pub uses : Asks count (is_read result) d e
  pub faults : RisesIf (is_put result) s.faults t.faults
  pub told : IsTrue d.honest → Written (is_err result) s t (text (slice d.bytes at count))

-- A text of at most 31 bytes is at the start of a list, with its length; a longer one is `None`.
abbrev pub GivesShort : List ℕ → Option ℕ → List ℕ → Type 0
GivesShort text (Some n) to = (n ≡ length text) × (n < 32) × (take n to ≡ text)
GivesShort text None to = 31 < length text
