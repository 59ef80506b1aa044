-- An image that was opened, and what a call leaves of it.
use Rattle.std.specs.Prelude.{◌≡◌, ℕ, List, Bool}
use Rattle.uimg_base.specs.{Device.Device, Held.Held, Lent.Lent, Using.Uses}
use Rattle.uimg_blob_reading.specs.declared.nodes.Blob.{Blob}
use Rattle.uimg_fit_reading.specs.declared.open_fit.OpenFit.{OpenFit}

-- the bytes of the source
abbrev pub file_of : {S A : Type 0} → (S → Device) → OpenFit S A → List ℕ
file_of device fit = (device fit.source.now).bytes

-- A fact about source, blob and room, such as `HasNode`.
abbrev pub InFit : {S A : Type 0} {X : Type 1} → (S → Device) → OpenFit S A
    → (Device → Blob → Held → X) → X
InFit device fit P = P (device fit.source.now) fit.blob fit.room.now

-- It holds the same blob, and the same references.
pub record SameFit {S A : Type 0} (old new : OpenFit S A) : Type 0 where
  pub source : new.source.ghost_name ≡ old.source.ghost_name
  pub blob : new.blob ≡ old.blob
  pub room : new.room.ghost_name ≡ old.room.ghost_name

-- Source, blob and room are unchanged, and a failure was counted exactly if there was one.
pub record KeepsBetween {S A : Type 0} (failed : Bool) (device : S → Device) (old new : OpenFit S A)
    : Type 0 where
  pub uses : Uses failed (device old.source.now) (device new.source.now)
  pub room : new.room.now ≡ old.room.now
  pub same : SameFit old new

abbrev pub Keeps : {S A : Type 0} → Bool → (S → Device) → Lent (OpenFit S A) → Type 0
Keeps failed device fit = KeepsBetween failed device fit.entry.now fit.exit.now
