-- What a call that reads an image does, writes and returns.
use Rattle.std.specs.Prelude.{◌≡◌, ℕ, List, [], false, Result, IsTrue}
use Rattle.uimg_base.specs.{Lent.Lent, Device.{Device, RisesIf}, Held.Held, Sink.Sink}
use Rattle.uimg_base.specs.{Using.UsesAtMost, Outcome.{Outcome, Tells}, Ranges.ReadsAhead}
use Rattle.uimg_base.specs.declared.status.Status.{Status}
use Rattle.uimg_legacy.specs.declared.fault.{LegacyFault.LegacyFault, Fault.Fault}
use Rattle.uimg_legacy.specs.Faults.{is_read, is_put, is_of_making, end_of}

-- A call that only reads. Of an honest device it requests at most `most` bytes.
pub record InspectsBetween {X : Type 0} (most : ℕ) (result : Result X Fault) (old new : Device)
    (before after : Held) : Type 0 where
  -- the source is unchanged; `Read` is returned exactly if its failures rose
  pub uses : UsesAtMost most (is_read result) old new
  -- its entries are dropped; it took no memory and refused none
  pub room : after ≡ record before { entries = [] }
  -- `Put` is never returned
  pub no_put : is_put result ≡ false
  -- L9 and L10 are never returned, over any source
  pub no_making : is_of_making result ≡ false

-- the same for a borrowed source and room, with a measure of the source's bytes
abbrev pub Inspects : {S X : Type 0} → (List ℕ → ℕ) → Result X Fault → (S → Device) → Lent S
    → Lent Held → Type 0
Inspects work result device source room =
    InspectsBetween (work (device source.entry.now).bytes) result
    (device source.entry.now) (device source.exit.now) room.entry.now room.exit.now

-- A call that reads and writes. Of an honest device it requests at most `most` bytes.
pub record DeliversBetween {X : Type 0} (most : ℕ) (result : Result X Fault) (old new : Device)
    (before after : Held) (from to : Sink) : Type 0 where
  -- the source is unchanged; `Read` is returned exactly if its failures rose
  pub uses : UsesAtMost most (is_read result) old new
  -- its entries are dropped; it took no memory and refused none
  pub room : after ≡ record before { entries = [] }
  -- `Put` is returned exactly if the faults of the output rose
  pub faults : RisesIf (is_put result) from.faults to.faults
  -- L9 and L10 are never returned, over any source
  pub no_making : is_of_making result ≡ false

-- the same for a borrowed source, room and output
abbrev pub Delivers : {S X : Type 0} → (List ℕ → ℕ) → Result X Fault → (S → Device) → Lent S
    → Lent Held → Lent Sink → Type 0
Delivers work result device source room out =
    DeliversBetween (work (device source.entry.now).bytes) result
    (device source.entry.now) (device source.exit.now) room.entry.now room.exit.now out.entry.now
    out.exit.now

-- A call that reads and passes what it read to a taker. Of an honest device it requests at most
-- `most` bytes.
pub record TakesOutBetween {X : Type 0} (most : ℕ) (result : Result X Fault) (old new : Device)
    (before after : Held) : Type 0 where
  -- the source is unchanged; `Read` is returned exactly if its failures rose
  pub uses : UsesAtMost most (is_read result) old new
  -- its entries are dropped; it took no memory and refused none
  pub room : after ≡ record before { entries = [] }
  -- L9 and L10 are never returned, over any source
  pub no_making : is_of_making result ≡ false

-- the same for a borrowed source and room
abbrev pub TakesOut : {S X : Type 0} → (List ℕ → ℕ) → Result X Fault → (S → Device) → Lent S
    → Lent Held → Type 0
TakesOut work result device source room =
    TakesOutBetween (work (device source.entry.now).bytes) result
    (device source.entry.now) (device source.exit.now) room.entry.now room.exit.now

-- Over an honest source the end and the text are those of an outcome of its bytes; if a device
-- failed, a prefix of the text was written.
abbrev pub TellsOf : {S : Type 0} → (List ℕ → Outcome LegacyFault) → Result Status Fault
    → (S → Device) → Lent S → Lent Sink → Type 0
TellsOf outcome result device source out = IsTrue (device source.entry.now).honest
    → Tells (end_of result) (outcome (device source.entry.now).bytes) out.entry.now out.exit.now

-- Of an honest source at most `work` bytes, the written text and one window were requested.
abbrev pub KeepsAhead : {S : Type 0} → (List ℕ → ℕ) → (List ℕ → Outcome LegacyFault) → (S → Device)
    → Lent S → Lent Sink → Type 0
KeepsAhead work outcome device source out = IsTrue (device source.entry.now).honest
    → ReadsAhead (work (device source.entry.now).bytes) (device source.entry.now)
    (device source.exit.now) out.entry.now out.exit.now
    (outcome (device source.entry.now).bytes).text
