-- What a copy from a source to an output does, or a sum over a range of a source.
use Rattle.std.specs.Prelude.{◌≡◌, ℕ, ◌+◌, ◌≤◌, List, length, Result, Err, Bool, true, false}
use Rattle.std.specs.{Prelude.IsTrue, Bool.OnFalse}
use Rattle.uimg_texts.specs.Slices.{slice}
use Rattle.uimg_base.specs.{Device.Device, Sink.{Sink, AppendsFirst, AppendsAll}}
use Rattle.uimg_base.specs.declared.ranges.MoveFault.{MoveFault, TheVariants.{Read, Put}}

-- the result is a failed read
abbrev pub is_read : {X : Type 0} → Result X MoveFault → Bool
is_read (Err Read) = true
is_read _ = false

-- the result is a failed write
abbrev pub is_put : {X : Type 0} → Result X MoveFault → Bool
is_put (Err Put) = true
is_put _ = false

-- A prefix of the bytes was appended, and at most one window more was requested.
pub record CopiesPrefix (d e : Device) (s t : Sink) (bytes : List ℕ) : Type 0 where
  -- the length of that prefix
  pub count : ℕ
  pub first : AppendsFirst count s t bytes
  -- at most 8192 bytes more than these were requested
  pub ahead : e.asked ≤ d.asked + (count + 8192)

-- As CopiesPrefix, and all was appended unless a device failed.
pub record Copies (failed : Bool) (d e : Device) (s t : Sink) (bytes : List ℕ) : Type 0 where
  pub prefix : CopiesPrefix d e s t bytes
  pub all : OnFalse failed (AppendsAll s t bytes)

-- A prefix was appended, and at most that prefix, one window and `most` bytes were requested.
pub record ReadsAhead (most : ℕ) (d e : Device) (s t : Sink) (bytes : List ℕ) : Type 0 where
  -- the length of that prefix
  pub count : ℕ
  pub first : AppendsFirst count s t bytes
  -- at most `most` bytes, these and 8192 more were requested
  pub ahead : e.asked ≤ d.asked + (most + (count + 8192))

-- Some bytes were fed to sums: those of a range of the device, if it is honest.
pub record SumsRange {T : Type 0} (fed : T → T → List ℕ → Type 0) (d : Device) (at len : ℕ)
    (old new : T) : Type 0 where
  -- what was read, whatever the source returned
  pub piece : List ℕ
  pub size : length piece ≡ len
  pub summed : fed old new piece
  pub right : IsTrue d.honest → piece ≡ slice d.bytes at len

-- The same, and the bytes were appended to an output.
pub record TakesRange {T : Type 0} (fed : T → T → List ℕ → Type 0) (d : Device) (at len : ℕ)
    (old new : T) (s t : Sink) : Type 0 where
  pub sums : SumsRange fed d at len old new
  pub wrote : AppendsAll s t sums.piece
