-- A source that was called.
use Rattle.std.proofs.Common.{◌≡◌, List, ℕ, Bool, false, IsTrue, Result, ◌∙◌, subst, sym}
use Rattle.uimg_base.specs.{declared.status.Status.Status, Device.{Device, SameDevice, RisesIf}}
use Rattle.uimg_base.specs.{Held.Held, Sink.Sink, Outcome.{Outcome, Tells}}
use Rattle.uimg_legacy.specs.declared.fault.{LegacyFault.LegacyFault, Fault.Fault}
use Rattle.uimg_legacy.specs.Faults.{is_read, is_put, is_of_making, end_of}
use Rattle.uimg_legacy.specs.Reading.{ReadsBetween, ReportsBetween}

-- it stays honest
pub honest_still : {old new : Device} → SameDevice old new → IsTrue old.honest → IsTrue new.honest
honest_still same honest = subst (λ (b : Bool). IsTrue b) (sym same.honest) honest

-- one call after others
pub same_still : {old now new : Device} → SameDevice old now → SameDevice now new → SameDevice old new
same_still p q = record { bytes = q.bytes ∙ p.bytes; honest = q.honest ∙ p.honest }

-- a step that reads, and one that reports, by what they did
pub reads_by : {X : Type 0} {used : Bool → Device → Device → Type 0} {answers : List ℕ → Result X Fault → Type 0} {r : Result X Fault} {old new : Device} {before after : Held} → used (is_read r) old new → after ≡ before → is_put r ≡ false → is_of_making r ≡ false → (IsTrue old.honest → answers old.bytes r) → ReadsBetween used answers r old new before after
reads_by uses room no_put no_making answer = record { uses = uses; room = room; no_put = no_put; no_making = no_making; answer = answer }

pub reports_by : {used : Bool → Device → Device → Type 0} {outcome : List ℕ → Outcome LegacyFault} {r : Result Status Fault} {old new : Device} {before after : Held} {s t : Sink} → used (is_read r) old new → after ≡ before → RisesIf (is_put r) s.faults t.faults → is_of_making r ≡ false → (IsTrue old.honest → Tells (end_of r) (outcome old.bytes) s t) → ReportsBetween used outcome r old new before after s t
reports_by uses room faults no_making told = record { uses = uses; room = room; faults = faults; no_making = no_making; told = told }
