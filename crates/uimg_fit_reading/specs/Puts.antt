-- What a call that reads and writes does to a source, a room and an output.
use Rattle.std.specs.Prelude.{◌≡◌, ◌≤◌, ◌+◌, ℕ, List, false, Result, is_err, IfErr, IsTrue}
use Rattle.uimg_base.specs.{Device.{Device, RisesIf}, Held.Held, Lent.Lent, Sink.Sink, Using.Asks}
use Rattle.uimg_base.specs.{Ranges.{is_read, is_put}, Writing.Written}
use Rattle.uimg_base.specs.declared.ranges.MoveFault.{MoveFault, TheVariants.Put}
use Rattle.uimg_fit_base.specs.declared.fault.Fault.{Fault}
use Rattle.uimg_fit_base.specs.Faults as of
use Rattle.uimg_fit_reading.specs.{declared.open_fit.OpenFit.OpenFit, OpenFits.KeepsBetween}

-- At most `most` bytes more were requested.
abbrev pub Pays : {S : Type 0} → ℕ → (S → Device) → Lent S → Type 0
Pays most device source = (device source.exit.now).asked ≤ (device source.entry.now).asked + most

-- Source, blob and room are unchanged, and a failure was counted exactly if it is returned.
pub record LeavesBetween {S A X : Type 0} (result : Result X MoveFault) (device : S → Device)
    (old new : OpenFit S A) (s t : Sink) : Type 0 where
  pub keeps : KeepsBetween (is_read result) device old new
  pub faults : RisesIf (is_put result) s.faults t.faults

abbrev pub Leaves : {S A X : Type 0} → Result X MoveFault → (S → Device) → Lent (OpenFit S A)
    → Lent Sink → Type 0
Leaves result device fit out =
    LeavesBetween result device fit.entry.now fit.exit.now out.entry.now out.exit.now

-- The same for a call that may refuse the image, but not for want of memory or a fault of building.
pub record RefusesBetween {S A X : Type 0} (result : Result X Fault) (device : S → Device)
    (old new : OpenFit S A) (s t : Sink) : Type 0 where
  pub keeps : KeepsBetween (of.is_read result) device old new
  pub faults : RisesIf (of.is_put result) s.faults t.faults
  pub memory : of.is_out_of_memory result ≡ false
  pub no_making : of.is_of_making result ≡ false

abbrev pub LeavesOrRefuses : {S A X : Type 0} → Result X Fault → (S → Device)
    → Lent (OpenFit S A) → Lent Sink → Type 0
LeavesOrRefuses result device fit out =
    RefusesBetween result device fit.entry.now fit.exit.now out.entry.now out.exit.now

-- Of faults, only a failed read and what is wrong with the image are returned.
pub record OnlyReadFaults {X : Type 0} (result : Result X Fault) : Type 0 where
  pub no_put : of.is_put result ≡ false
  pub memory : of.is_out_of_memory result ≡ false
  pub no_making : of.is_of_making result ≡ false

-- A text was written, or a prefix of it if a write failed.
pub record PutsOwn {X : Type 0} (result : Result X MoveFault) (s t : Sink) (text : List ℕ)
    : Type 0 where
  pub faults : RisesIf (is_put result) s.faults t.faults
  pub put : IfErr result (λ e. e ≡ Put)
  pub told : Written (is_err result) s t text

-- Over an honest source a text was written, or a prefix of it if the call failed. At most `most`
-- bytes more were requested, and a failure was counted exactly if it is returned.
pub record PutsFromBetween {X : Type 0} (most : ℕ) (result : Result X MoveFault) (d e : Device)
    (s t : Sink) (text : List ℕ) : Type 0 where
  pub uses : Asks most (is_read result) d e
  pub faults : RisesIf (is_put result) s.faults t.faults
  pub told : IsTrue d.honest → Written (is_err result) s t text

-- the same for a text of the source's bytes
abbrev pub PutsFrom : {S X : Type 0} → ℕ → Result X MoveFault → (S → Device) → Lent S → Lent Sink
    → (List ℕ → List ℕ) → Type 0
PutsFrom most result device source out text = PutsFromBetween most result
    (device source.entry.now) (device source.exit.now) out.entry.now out.exit.now
    (text (device source.entry.now).bytes)

-- The same, and the room is unchanged.
pub record PutsBetween {X : Type 0} (most : ℕ) (result : Result X MoveFault) (d e : Device)
    (old new : Held) (s t : Sink) (text : List ℕ) : Type 0 where
  pub uses : Asks most (is_read result) d e
  pub room : new ≡ old
  pub faults : RisesIf (is_put result) s.faults t.faults
  pub told : IsTrue d.honest → Written (is_err result) s t text

abbrev pub Puts : {S X : Type 0} → ℕ → Result X MoveFault → (S → Device) → Lent S → Lent Held
    → Lent Sink → (List ℕ → List ℕ) → Type 0
Puts most result device source room out text = PutsBetween most result
    (device source.entry.now) (device source.exit.now) room.entry.now room.exit.now out.entry.now
    out.exit.now (text (device source.entry.now).bytes)
