-- What a reading call does to a device.
use Rattle.std.specs.{Prelude.{◌≡◌, ℕ, ◌+◌, ◌≤◌, List, Bool, IsTrue}, Bool.OnFalse}
use Rattle.uimg_base.specs.{Device.{Device, SameDevice, RisesIf, asked_more}, Lent.Lent}

-- Bytes and honesty are unchanged, and a failure was counted if and only if a read failed.
pub record Uses (failed : Bool) (old new : Device) : Type 0 where
  -- neither its bytes nor its honesty changed
  pub same : SameDevice old new
  -- the failures rose if and only if a read failed
  pub failures : RisesIf failed old.failures new.failures

-- As Uses, and of an honest device at most `most` bytes were requested.
pub record UsesAtMost (most : ℕ) (failed : Bool) (old new : Device) : Type 0 where
  pub same : SameDevice old new
  -- nothing is claimed of a device that is not honest
  pub asked : IsTrue old.honest → new.asked ≤ old.asked + most
  pub failures : RisesIf failed old.failures new.failures

-- The same for a borrowed source, with the most bytes as a function of its bytes.
abbrev pub UsesWithin : {S : Type 0} → (List ℕ → ℕ) → Bool → (S → Device) → Lent S → Type 0
UsesWithin work failed device source =
    UsesAtMost (work (device source.entry.now).bytes) failed (device source.entry.now)
    (device source.exit.now)

-- As Uses, and of any device at most `most` bytes were requested.
pub record Asks (most : ℕ) (failed : Bool) (old new : Device) : Type 0 where
  pub same : SameDevice old new
  pub asked : new.asked ≤ old.asked + most
  pub failures : RisesIf failed old.failures new.failures

-- As Asks, and exactly `count` bytes were requested if no read failed.
pub record AsksAll (count : ℕ) (failed : Bool) (old new : Device) : Type 0 where
  pub same : SameDevice old new
  pub asked : new.asked ≤ old.asked + count
  -- exactly `count` bytes were requested, unless a read failed
  pub all : OnFalse failed (new.asked ≡ asked_more old.asked count)
  pub failures : RisesIf failed old.failures new.failures
