-- What was done to one part was done to the parts.
use Rattle.std.proofs.Common.{◌≡◌, ◌<◌, ◌++◌, ℕ, List, length, map, get_or, set, Bool, false, IsTrue, Result, arith}
use Rattle.std.{specs.{Prelude.is_err, Result.OnOk}, proofs.lemmas.List.take_all}
use Rattle.uimg_texts.specs.Slices.{slice}
use Rattle.uimg_base.specs.{Device.{Device, RisesIf}, Sink.Sink, Using.Uses, Writing.Written}
use Rattle.uimg_base.specs.{Ranges.Copies, declared.source.SourceFault.SourceFault}
use Rattle.uimg_legacy.specs.{declared.fault.Fault.Fault, Devices.{AreHonest, UsesAll, bytes_of}}
use Rattle.uimg_legacy.specs.PartSteps.{FeedsBetween, PutsPartsBetween, numbered}
use Rattle.uimg_legacy.specs.Faults.{is_read, is_put, is_refused}
use Rattle.uimg_legacy.proofs.DevicesLaws.{bytes_at, honest_at, uses_after}

-- all of a part
pub whole : (xs ys : List ℕ) (n : ℕ) → ys ≡ xs → n ≡ length xs → slice ys 0 n ≡ xs
whole xs ys n same size = rw same (take_all n xs (omega arith))

-- what was copied was written
pub written_copy : (b : Bool) (d e : Device) (s t : Sink) (xs : List ℕ) → Copies b d e s t xs → Written b s t xs
written_copy b d e s t xs copies = record { all = copies.all; prefix = record { count = copies.prefix.count; first = copies.prefix.first } }

pub feeds_after : {X P M : Type 0} (r : Result X SourceFault) (device : P → Device) (holds : M → List ℕ → Type 0) (xs : List P) (i : ℕ) (x z : P) (s t : M) → i < length xs → Uses (is_err r) (device (get_or xs i x)) (device z) → (IsTrue (device (get_or xs i x)).honest → OnOk r ((fed : List ℕ) → holds s fed → holds t (fed ++ (device (get_or xs i x)).bytes))) → FeedsBetween AreHonest holds (numbered i) r device xs (set xs i z) s t
feeds_after r device holds xs i x z s t within uses fed = record {
  uses = uses_after device (is_err r) xs i x z within uses.same uses.failures;
  fed = λ honest. rw (bytes_at device xs i x within) (fed (honest_at device xs i x within honest));
}

-- a step that writes, by what it did
pub puts_by : {X P : Type 0} {sure : List Device → Type 0} {text : List (List ℕ) → List ℕ} {r : Result X Fault} {device : P → Device} {old new : List P} {s t : Sink} → UsesAll (is_read r) (map device old) (map device new) → RisesIf (is_put r) s.faults t.faults → is_refused r ≡ false → (sure (map device old) → Written (is_err r) s t (text (bytes_of (map device old)))) → PutsPartsBetween sure text r device old new s t
puts_by uses faults accepted written = record { uses = uses; faults = faults; accepted = accepted; written = written }

pub puts_after : {X P : Type 0} (r : Result X Fault) (device : P → Device) (xs : List P) (i : ℕ) (x z : P) (s t : Sink) → i < length xs → Uses (is_read r) (device (get_or xs i x)) (device z) → RisesIf (is_put r) s.faults t.faults → is_refused r ≡ false → (IsTrue (device (get_or xs i x)).honest → Written (is_err r) s t (device (get_or xs i x)).bytes) → PutsPartsBetween AreHonest (numbered i) r device xs (set xs i z) s t
puts_after r device xs i x z s t within uses faults accepted written =
    puts_by (uses_after device (is_read r) xs i x z within uses.same uses.failures) faults accepted (λ honest. rw (bytes_at device xs i x within) (written (honest_at device xs i x within honest)))
