-- What a command does to its source and to its room's memory.
use Rattle.std.specs.Prelude.{◌≡◌, ◌≤◌, ℕ, List, max, false, Result, IsTrue}
use Rattle.uimg_base.specs.{Device.{Device, RisesIf}, Held.{Held, held_bytes}, Lent.Lent, Sink.Sink}
use Rattle.uimg_base.specs.{Outcome.{Outcome, Tells}, Ranges.ReadsAhead, Using.{Uses, UsesAtMost}}
use Rattle.uimg_base.specs.declared.status.Status.{Status}
use Rattle.uimg_blob_reading.specs.{Counts.nodes_met, Indexed.TakesNodes}
use Rattle.uimg_fit_base.specs.Faults.{is_read, is_put, is_out_of_memory, is_of_making, end_of}
use Rattle.uimg_fit_base.specs.declared.fault.Fault.{Fault}

-- A call that only reads. Of an honest source it requests at most `most` bytes; it takes memory for
-- the image's nodes alone.
pub record InspectsBetween {X : Type 0} (most : ℕ) (result : Result X Fault) (d e : Device)
    (old new : Held) : Type 0 where
  -- the source is unchanged; `Read` is returned exactly if its failures rose
  pub uses : UsesAtMost most (is_read result) d e
  pub room : TakesNodes d (is_out_of_memory result) old new
  -- `Put` is never returned
  pub no_put : is_put result ≡ false
  -- B10 and F5 to F10 are never returned, over any source
  pub no_making : is_of_making result ≡ false

-- the same with a measure of the source's bytes
abbrev pub Inspects : {S X : Type 0} → (List ℕ → ℕ) → Result X Fault → (S → Device) → Lent S
    → Lent Held → Type 0
Inspects work result device source room =
    InspectsBetween (work (device source.entry.now).bytes) result
    (device source.entry.now) (device source.exit.now) room.entry.now room.exit.now

-- The same without a bound on the requested bytes.
pub record ReadsAnyBetween {X : Type 0} (result : Result X Fault) (d e : Device) (old new : Held)
    : Type 0 where
  pub uses : Uses (is_read result) d e
  pub room : TakesNodes d (is_out_of_memory result) old new
  pub no_put : is_put result ≡ false
  pub no_making : is_of_making result ≡ false

abbrev pub ReadsAny : {S X : Type 0} → Result X Fault → (S → Device) → Lent S → Lent Held → Type 0
ReadsAny result device source room = ReadsAnyBetween result
    (device source.entry.now) (device source.exit.now) room.entry.now room.exit.now

-- A call that reads and writes. Of an honest source it requests at most `most` bytes; it takes
-- memory for the image's nodes alone.
pub record DeliversBetween {X : Type 0} (most : ℕ) (result : Result X Fault) (d e : Device)
    (old new : Held) (s t : Sink) : Type 0 where
  -- the source is unchanged; `Read` is returned exactly if its failures rose
  pub uses : UsesAtMost most (is_read result) d e
  pub room : TakesNodes d (is_out_of_memory result) old new
  -- `Put` is returned exactly if the faults of the output rose
  pub faults : RisesIf (is_put result) s.faults t.faults
  -- B10 and F5 to F10 are never returned, over any source
  pub no_making : is_of_making result ≡ false

abbrev pub Delivers : {S X : Type 0} → (List ℕ → ℕ) → Result X Fault → (S → Device) → Lent S
    → Lent Held → Lent Sink → Type 0
Delivers work result device source room out =
    DeliversBetween (work (device source.entry.now).bytes) result
    (device source.entry.now) (device source.exit.now) room.entry.now room.exit.now out.entry.now
    out.exit.now

-- The same for a call that passes what it read to a taker; nothing is claimed of failed writes.
pub record TakesOutBetween {X : Type 0} (most : ℕ) (result : Result X Fault) (d e : Device)
    (old new : Held) : Type 0 where
  -- the source is unchanged; `Read` is returned exactly if its failures rose
  pub uses : UsesAtMost most (is_read result) d e
  pub room : TakesNodes d (is_out_of_memory result) old new
  -- B10 and F5 to F10 are never returned, over any source
  pub no_making : is_of_making result ≡ false

abbrev pub TakesOut : {S X : Type 0} → (List ℕ → ℕ) → Result X Fault → (S → Device) → Lent S
    → Lent Held → Type 0
TakesOut work result device source room =
    TakesOutBetween (work (device source.entry.now).bytes) result
    (device source.entry.now) (device source.exit.now) room.entry.now room.exit.now

-- Over an honest source the outcome of its bytes was written, to its end or up to a failed call.
abbrev pub TellsOf : {S : Type 0} → (List ℕ → Outcome Fault) → Result Status Fault → (S → Device)
    → Lent S → Lent Sink → Type 0
TellsOf outcome result device source out = IsTrue (device source.entry.now).honest →
    Tells (end_of result) (outcome (device source.entry.now).bytes) out.entry.now out.exit.now

-- Of an honest source at most `work` bytes, the written text and one window were requested.
abbrev pub KeepsAhead : {S : Type 0} → (List ℕ → ℕ) → (List ℕ → Outcome Fault) → (S → Device)
    → Lent S → Lent Sink → Type 0
KeepsAhead work outcome device source out = IsTrue (device source.entry.now).honest →
    ReadsAhead (work (device source.entry.now).bytes) (device source.entry.now)
    (device source.exit.now) out.entry.now out.exit.now
    (outcome (device source.entry.now).bytes).text

-- A call over bytes in memory: no read or write fails, and it takes memory for the image's nodes
-- alone.
pub record ReadsInMemoryBetween {X : Type 0} (file : List ℕ) (result : Result X Fault)
    (old new : Held) : Type 0 where
  -- `OutOfMemory` of the blob is returned exactly if the refusals of the room rose
  pub refused : RisesIf (is_out_of_memory result) old.refused new.refused
  -- 8192 bytes, and 128 for each node that was met
  pub peak : new.peak ≤ max old.peak (held_bytes (nodes_met file))
  pub no_read : is_read result ≡ false
  pub no_put : is_put result ≡ false
  pub no_making : is_of_making result ≡ false

abbrev pub ReadsInMemory : {X : Type 0} → List ℕ → Result X Fault → Lent Held → Type 0
ReadsInMemory file result room = ReadsInMemoryBetween file result room.entry.now room.exit.now
