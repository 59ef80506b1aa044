-- The span of a part of a legacy image, or of the payload of a FIT image's image.
use Rattle.std.specs.Prelude.{◌≡◌, ℕ, ◌+◌, ◌≤◌, List, length, Result, Ok, Err, Option, Some, Bool}
use Rattle.std.specs.Prelude.{true, false, IsTrue, IfOk, IfSome}
use Rattle.uimg_texts.specs.Slices.{slice}
use Rattle.uimg_base.specs.{Device.Device, Held.Held, Lent.Lent, Outcome.{End, done}}
use Rattle.uimg_base.specs.{Using.UsesAtMost, declared.spans.Span.Span}
use Rattle.uimg_texts.specs.declared.naming.Naming.TheVariants.{Profile}
use Rattle.uimg_requests.specs.declared.command.Action.TheVariants as action
use Rattle.uimg_requests.specs.declared.command.Form.{Form}
use Rattle.uimg_engine.specs.declared.fault.Fault.{Fault}
use Rattle.uimg_engine.specs.Faults.{is_read, is_put, is_no_memory, is_of_making, end_of}
use Rattle.uimg_engine.specs.Headline.{is_fit, outcome_in, work_in, TakesTable}
use Rattle.uimg_fit_reading.specs.PayloadPlaces.{place_at}
use Rattle.uimg_legacy.specs.Placing.{span_at}

-- the end of an extraction that a result means, unless a device failed or memory was refused
abbrev pub located_end : Result Span Fault → Option (End Fault)
located_end (Ok span) = Some done
located_end (Err fault) = end_of (Err fault)

-- The span is that of the payload of the FIT image's image, or of the part of the legacy image, at
-- a position, also if it has no bytes.
abbrev pub IsSpanOf : Bool → ℕ → List ℕ → Span → Type 0
IsSpanOf true position file span = place_at file position ≡ Ok span
IsSpanOf false position file span = span_at file position ≡ Ok span

-- An extraction from a position, which prints no names, writes just the bytes of the returned span,
-- or ends with the returned fault.
pub record TellsSpan (fit : Bool) (position : ℕ) (file : List ℕ) (result : Result Span Fault)
    : Type 0 where
  -- its end, unless a read failed or memory was refused
  pub end : IfSome (located_end result)
      (λ e. (outcome_in Profile fit (action.Extract position) file).end ≡ e)
  -- just the bytes that the extraction writes
  pub text : IfOk result (λ span.
      (outcome_in Profile fit (action.Extract position) file).text
      ≡ slice file span.place span.length)
  -- where the definition of the format has them
  pub span : IfOk result (IsSpanOf fit position file)

-- the same for a file in a format
abbrev pub FindsSpan : Form → ℕ → List ℕ → Result Span Fault → Type 0
FindsSpan form position file result = TellsSpan (is_fit form file) position file result

-- a span ends inside the file
abbrev pub StandsIn : List ℕ → Span → Type 0
StandsIn file span = span.place + span.length ≤ length file

-- What the engine of a format does at any exit: it requested no more than a listing, and wrote
-- nothing.
pub record LocatesBetween (fit : Bool) (position : ℕ) (result : Result Span Fault) (d e : Device)
    (old new : Held) : Type 0 where
  pub uses : UsesAtMost (work_in Profile fit action.List d.bytes) (is_read result) d e
  pub room : TakesTable fit d (is_no_memory result) old new
  pub no_put : is_put result ≡ false
  pub not_making : is_of_making result ≡ false
  pub inside : IfOk result (StandsIn d.bytes)
  pub told : IsTrue d.honest → TellsSpan fit position d.bytes result

abbrev pub Locates : {S : Type 0} → Bool → ℕ → Result Span Fault → (S → Device) → Lent S → Lent Held
    → Type 0
Locates fit position result device source room = LocatesBetween fit position result
    (device source.entry.now) (device source.exit.now) room.entry.now room.exit.now
