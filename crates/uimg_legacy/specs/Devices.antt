-- What contracts see of several devices.
use Rattle.std.specs.Prelude.{◌≡◌, ◌≢◌, ℕ, ◌<◌, List, length, map, slice_index_or, Bool, true}
use Rattle.std.specs.Prelude.{false, IsTrue, All}
use Rattle.uimg_base.specs.Device.{Device, Rose}

-- the bytes of each device
abbrev pub bytes_of : List Device → List (List ℕ)
bytes_of devices = map (λ d. d.bytes) devices

-- each device is honest
abbrev pub AreHonest : List Device → Type 0
AreHonest devices = All (λ d. IsTrue d.honest) devices

-- The bytes and the honesty of the devices are unchanged.
pub record SameDevices (old new : List Device) : Type 0 where
  pub bytes : map (λ d. d.bytes) new ≡ map (λ d. d.bytes) old
  pub honest : map (λ d. d.honest) new ≡ map (λ d. d.honest) old

-- how often device i failed
abbrev pub failures_of : List Device → ℕ → ℕ
failures_of devices i = slice_index_or (map (λ d. d.failures) devices) i 0

-- The failures of one device rose; those of the others are unchanged.
pub record OneRose (old new : List Device) : Type 0 where
  pub number : ℕ
  pub within : number < length old
  pub rose : Rose (failures_of old number) (failures_of new number)
  pub others : (i : ℕ) → i ≢ number → failures_of new i ≡ failures_of old i

-- The failures of one device rose if a test holds; otherwise none changed.
abbrev pub OneRisesIf : Bool → List Device → List Device → Type 0
OneRisesIf true old new = OneRose old new
OneRisesIf false old new = map (λ d. d.failures) new ≡ map (λ d. d.failures) old

-- how many bytes were requested of each device
abbrev pub asked_of : List Device → List ℕ
asked_of devices = map (λ d. d.asked) devices

-- What reading several devices does.
pub record UsesAll (failed : Bool) (old new : List Device) : Type 0 where
  -- neither the bytes nor the honesty of any of them changed
  pub same : SameDevices old new
  -- those of one device rose if a read failed; all others are unchanged
  pub failures : OneRisesIf failed old new

-- The same, and no byte was requested.
pub record AsksNone (failed : Bool) (old new : List Device) : Type 0 where
  pub same : SameDevices old new
  pub failures : OneRisesIf failed old new
  pub asked : asked_of new ≡ asked_of old
