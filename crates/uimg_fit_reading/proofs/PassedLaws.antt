-- What a `?` passes on.
use Rattle.std.proofs.Common.{◌≡◌, ◌++◌, ℕ, List, true, Result, Ok, Err, ap, sym, subst}
use Rattle.std.specs.{Prelude.is_err, Result.{IsErr, IsErrAnd}}
use Rattle.uimg_base.specs.{Device.{Device, RisesIf}, Ranges.is_put, Sink.Sink}
use Rattle.uimg_base.specs.declared.ranges.MoveFault.{MoveFault}
use Rattle.uimg_fit_reading.specs.{declared.open_fit.OpenFit.OpenFit, OpenFits.SameFit}
use Rattle.uimg_fit_reading.specs.Puts.{LeavesBetween, PutsBetween, PutsOwn}
use Rattle.uimg_fit_reading.proofs.{OpenedLaws.kept_then, PutLaws.cut}

pub passed_on : {X F : Type 0} (r : Result X F) (e : F) → IsErrAnd r (λ g. g ≡ e) → r ≡ Err e
passed_on (Ok x) e is = absurd is
passed_on (Err g) e is = ap Err is

pub failed_of : {X F : Type 0} (r : Result X F) → IsErr r → is_err r ≡ true
failed_of r is = is

-- a call that stopped
pub leaves_stops : {S A X Y : Type 0} {device : S → Device} {f g : OpenFit S A} {s t : Sink} (r : Result Y MoveFault) (e : MoveFault)
    → IsErrAnd r (λ g. g ≡ e) → LeavesBetween {X = X} (Err e) device f g s t → LeavesBetween {X = Y} r device f g s t
leaves_stops (Ok x) e is p = absurd is
leaves_stops {Y = Y} {device = device} {f = f} {g = g} {s = s} {t = t} (Err i) e is p =
    subst (λ (x : MoveFault). LeavesBetween {X = Y} (Err x) device f g s t) (sym is) (record { keeps = p.keeps; faults = p.faults })

-- .. with its source and its room, of one that wrote a text
pub puts_leave : {S A X : Type 0} {device : S → Device} {m : ℕ} {r : Result X MoveFault} {f g : OpenFit S A} {s t : Sink} {xs : List ℕ}
    → SameFit f g → PutsBetween m r (device f.source.now) (device g.source.now) f.room.now g.room.now s t xs → LeavesBetween r device f g s t
puts_leave same p = record { keeps = record { uses = record { same = p.uses.same; failures = p.uses.failures }; room = p.room; same = same }; faults = p.faults }

-- one call, and then another
pub leaves_then : {S A X Y : Type 0} {device : S → Device} {f g h : OpenFit S A} {s t u : Sink} (x : X) (r : Result Y MoveFault)
    → LeavesBetween {X = X} (Ok x) device f g s t → LeavesBetween {X = Y} r device g h t u → LeavesBetween {X = Y} r device f h s u
leaves_then {u = u} x r p q = record {
  keeps = kept_then p.keeps q.keeps;
  faults = subst (λ (k : ℕ). RisesIf (is_put r) k u.faults) p.faults q.faults;
}

-- a failed write
pub own_stops : {X Y : Type 0} (r : Result Y MoveFault) (e : MoveFault) (s t : Sink) (xs ys : List ℕ) → IsErrAnd r (λ g. g ≡ e) → PutsOwn {X = X} (Err e) s t xs → PutsOwn {X = Y} r s t (xs ++ ys)
own_stops (Ok y) e s t xs ys is p = absurd is
own_stops {Y = Y} (Err g) e s t xs ys is p = subst (λ (x : MoveFault). PutsOwn {X = Y} (Err x) s t (xs ++ ys)) (sym is) (record { faults = p.faults; put = p.put; told = cut s t xs ys p.told })
