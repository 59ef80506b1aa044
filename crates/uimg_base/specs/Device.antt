-- What contracts see of a device that may fail.
use Rattle.std.specs.Prelude.{◌≡◌, ℕ, ◌+◌, ◌-◌, ◌^◌, ◌<◌, ◌≤◌, min, max, List, Bool, true, false}

-- A source: its bytes, whether it returns those bytes, and two counters.
pub record Device : Type 0 where
  -- its bytes, which no call changes
  pub bytes : List ℕ
  -- whether each read that succeeds returns these bytes
  pub honest : Bool
  -- how many bytes were requested, failed reads included; it saturates
  pub asked : ℕ
  -- how many calls failed; it saturates
  pub failures : ℕ

-- A counter of 64 bits rose, or was at its greatest value.
abbrev pub Rose : ℕ → ℕ → Type 0
Rose old new = (old ≤ new) × (old < 2 ^ 64 - 1 → old < new)

-- A counter rose if and only if a test holds; if it was at its greatest value, it may stay there.
abbrev pub RisesIf : Bool → ℕ → ℕ → Type 0
RisesIf true old new = Rose old new
RisesIf false old new = new ≡ old

-- A source's bytes and honesty are unchanged.
pub record SameDevice (old new : Device) : Type 0 where
  pub bytes : new.bytes ≡ old.bytes
  pub honest : new.honest ≡ old.honest

-- the counter after n more requested bytes; it saturates at 128 bits
abbrev pub asked_more : ℕ → ℕ → ℕ
asked_more asked n = max asked (min (asked + n) (2 ^ 128 - 1))

-- nothing was requested yet, and nothing failed
pub record IsFresh (device : Device) : Type 0 where
  pub asked : device.asked ≡ 0
  pub failures : device.failures ≡ 0
