-- What the steps do that read the parts of an image to be built. Contracts see the devices of the
-- parts before and after a step.
use Rattle.std.specs.Prelude.{◌≡◌, ℕ, ◌<◌, ◌≤◌, ◌^◌, List, [], ◌++◌, length, map, slice_index_or, ⊤}
use Rattle.std.specs.{Prelude.{false, Result, OnOk, IfOk, is_err}, List.All}
use Rattle.uimg_base.specs.{Lent.Lent, Device.{Device, RisesIf}, Sink.Sink, Writing.Written}
use Rattle.uimg_base.specs.declared.source.SourceFault.{SourceFault}
use Rattle.uimg_legacy.specs.{declared.fault.Fault.Fault, Faults.{is_read, is_put, is_refused}}
use Rattle.uimg_legacy.specs.Devices.{bytes_of, AreHonest, UsesAll, AsksNone}

-- part i
abbrev pub numbered : ℕ → List (List ℕ) → List ℕ
numbered i parts = slice_index_or parts i []

-- each part's size fits a 32-bit word
abbrev pub FitWords : List (List ℕ) → Type 0
FitWords parts = All (λ part. length part < 2 ^ 32) parts

-- A step that requests no byte. Its result is about the parts' bytes, honest or not.
pub record LearnsBetween {X P : Type 0} (fact : List (List ℕ) → X → Type 0)
    (result : Result X SourceFault) (device : P → Device) (old new : List P) : Type 0 where
  pub uses : AsksNone (is_err result) (map device old) (map device new)
  pub answer : IfOk result (fact (bytes_of (map device old)))

-- the same for borrowed parts
abbrev pub Learns : {X P : Type 0} → (List (List ℕ) → X → Type 0) → Result X SourceFault
    → (P → Device) → Lent (List P) → Type 0
Learns fact result device parts = LearnsBetween fact result device parts.entry.now parts.exit.now

-- A step that reads the parts. Over honest parts its result is about their bytes.
pub record FindsInPartsBetween {X P : Type 0} (fact : List (List ℕ) → X → Type 0)
    (result : Result X SourceFault) (device : P → Device) (old new : List P) : Type 0 where
  pub uses : UsesAll (is_err result) (map device old) (map device new)
  pub answer : AreHonest (map device old) → IfOk result (fact (bytes_of (map device old)))

-- the same for borrowed parts
abbrev pub FindsInParts : {X P : Type 0} → (List (List ℕ) → X → Type 0) → Result X SourceFault
    → (P → Device) → Lent (List P) → Type 0
FindsInParts fact result device parts =
    FindsInPartsBetween fact result device parts.entry.now parts.exit.now

-- A step that feeds bytes of the parts to a sum: exactly `text` of them, if the devices are `sure`.
pub record FeedsBetween {X P M : Type 0} (sure : List Device → Type 0) (holds : M → List ℕ → Type 0)
    (text : List (List ℕ) → List ℕ) (result : Result X SourceFault) (device : P → Device)
    (old new : List P) (before after : M) : Type 0 where
  pub uses : UsesAll (is_err result) (map device old) (map device new)
  pub fed : sure (map device old)
      → OnOk result
      ((fed : List ℕ) → holds before fed
      → holds after (fed ++ text (bytes_of (map device old))))

-- the same for borrowed parts and a borrowed sum
abbrev pub FeedsParts : {X P M : Type 0} → (List Device → Type 0) → (M → List ℕ → Type 0)
    → (List (List ℕ) → List ℕ) → Result X SourceFault → (P → Device) → Lent (List P) → Lent M
    → Type 0
FeedsParts sure holds text result device parts sum = FeedsBetween sure holds text result device
    parts.entry.now parts.exit.now sum.entry.now sum.exit.now

-- A step that writes bytes of the parts and refuses nothing. If the devices are `sure`, it writes
-- `text` of them, or a prefix of that if a device failed.
pub record PutsPartsBetween {X P : Type 0} (sure : List Device → Type 0)
    (text : List (List ℕ) → List ℕ) (result : Result X Fault) (device : P → Device)
    (old new : List P) (from to : Sink) : Type 0 where
  pub uses : UsesAll (is_read result) (map device old) (map device new)
  pub faults : RisesIf (is_put result) from.faults to.faults
  pub accepted : is_refused result ≡ false
  pub written : sure (map device old)
      → Written (is_err result) from to (text (bytes_of (map device old)))

-- the same for borrowed parts and a borrowed output
abbrev pub PutsParts : {X P : Type 0} → (List Device → Type 0) → (List (List ℕ) → List ℕ)
    → Result X Fault → (P → Device) → Lent (List P) → Lent Sink → Type 0
PutsParts sure text result device parts out = PutsPartsBetween sure text result device
    parts.entry.now parts.exit.now out.entry.now out.exit.now

-- devices of any kind
abbrev pub AnyDevices : List Device → Type 0
AnyDevices devices = ⊤

-- A sum that may be too small if it is 2^32 or more, and is exact below.
pub record SumsTo (total sum : ℕ) : Type 0 where
  pub most : sum ≤ total
  pub exact : sum < 2 ^ 32 → sum ≡ total
