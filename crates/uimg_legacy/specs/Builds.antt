-- What building an image does and returns.
use Rattle.std.specs.Prelude.{◌≡◌, ℕ, List, map, Result, Ok, IsTrue, OnOk}
use Rattle.uimg_base.specs.{Lent.Lent, Device.{Device, RisesIf}, Sink.Sink, Outcome.Tells}
use Rattle.uimg_legacy.specs.declared.{options.Options.Options, fault.Fault.Fault}
use Rattle.uimg_legacy.specs.Faults.{is_read, is_put, is_refused, built_end, Gives}
use Rattle.uimg_legacy.specs.{Devices.{bytes_of, asked_of, AreHonest, UsesAll}, ReadsBack.ReadsBack}
use Rattle.uimg_legacy.specs.Building.{data_for, data_to_build, legacy_built, build_of}

-- What building does to the parts and the output. After a refusal nothing was written, and no byte
-- of a part was requested.
pub record BuildsBetween {X : Type 0} (result : Result X Fault) (old new : List Device)
    (from to : Sink) : Type 0 where
  -- `Read` is returned exactly if the failures of one part rose
  pub uses : UsesAll (is_read result) old new
  -- `Put` is returned exactly if the faults of the output rose
  pub faults : RisesIf (is_put result) from.faults to.faults
  -- over any parts, honest or not
  pub untouched : IsTrue (is_refused result) → (to ≡ from) × (asked_of new ≡ asked_of old)

-- the same for borrowed parts and a borrowed output
abbrev pub Builds : {X P : Type 0} → Result X Fault → (P → Device) → Lent (List P) → Lent Sink
    → Type 0
Builds result device parts out =
    BuildsBetween result (map device parts.entry.now) (map device parts.exit.now) out.entry.now
    out.exit.now

-- What the result says about whether the parts are accepted.
pub record Decides {X : Type 0} (kind : ℕ) (parts : List (List ℕ)) (result : Result X Fault)
    : Type 0 where
  -- over any parts: at `Ok` they are accepted, and a refusal is the one that their lengths decide
  pub decided : Gives (λ _. data_for kind parts) result (data_to_build kind parts)
  -- `Put` is returned only for parts that are accepted
  pub accepted : IsTrue (is_put result) → data_to_build kind parts ≡ Ok (data_for kind parts)

-- Over honest parts the image is written, or a prefix if a device failed, or nothing if refused.
abbrev pub TellsBuilt : {X P : Type 0} → Options → Result X Fault → (P → Device) → Lent (List P)
    → Lent Sink → Type 0
TellsBuilt options result device parts out = AreHonest (map device parts.entry.now)
    → Tells (built_end result) (build_of options (bytes_of (map device parts.entry.now)))
    out.entry.now out.exit.now

-- Over honest parts the built image reads back as them.
abbrev pub BuildsReadable : {X P : Type 0} → Options → Result X Fault → (P → Device) → Lent (List P)
    → Type 0
BuildsReadable options result device parts = AreHonest (map device parts.entry.now)
    → OnOk result (ReadsBack (legacy_built options (bytes_of (map device parts.entry.now)))
    (bytes_of (map device parts.entry.now)))
