-- An image stays opened while its device and its room stay.
use Rattle.std.proofs.Common.{◌≡◌, ◌∙◌, ℕ, List, Bool, false, refl, IsTrue, sym, subst}
use Rattle.uimg_base.specs.{Device.{Device, SameDevice, RisesIf}, Held.Held}
use Rattle.uimg_blob_reading.specs.{declared.nodes.Blob.Blob, Grammar.Siblings}
use Rattle.uimg_fit_reading.specs.{declared.open_fit.OpenFit.OpenFit, Nodes.{IsRead, Opened}}
use Rattle.uimg_fit_reading.specs.OpenFits.{KeepsBetween}

pub still : {d e : Device} {blob : Blob} {old new : Held} {t : Siblings} → SameDevice d e → new ≡ old → Opened d blob old t → Opened e blob new t
still {d} {e} {blob} {old} {new} {t} same room o = record {
  honest = subst (λ (b : Bool). IsTrue b) (sym same.honest) o.honest;
  read = subst (λ (r : Held). IsRead e.bytes blob r.entries t) (sym room) (subst (λ (xs : List ℕ). IsRead xs blob old.entries t) (sym same.bytes) o.read);
}

-- .. after a call that took it
pub stays : {S A : Type 0} {device : S → Device} {failed : Bool} {f g : OpenFit S A} {t : Siblings}
    → KeepsBetween failed device f g → Opened (device f.source.now) f.blob f.room.now t → Opened (device g.source.now) g.blob g.room.now t
stays {device = device} {g = g} {t = t} k o =
    subst (λ (b : Blob). Opened (device g.source.now) b g.room.now t) (sym k.same.blob) (still k.uses.same k.room o)

-- no call
pub kept : {S A : Type 0} {device : S → Device} {f : OpenFit S A} → KeepsBetween false device f f
kept = record {
  uses = record { same = record { bytes = refl; honest = refl }; failures = refl };
  room = refl;
  same = record { source = refl; blob = refl; room = refl };
}

-- one call, and then another
pub kept_then : {S A : Type 0} {device : S → Device} {failed : Bool} {f g h : OpenFit S A} → KeepsBetween false device f g → KeepsBetween failed device g h → KeepsBetween failed device f h
kept_then {device = device} {failed = failed} {h = h} p q = record {
  uses = record {
    same = record { bytes = q.uses.same.bytes ∙ p.uses.same.bytes; honest = q.uses.same.honest ∙ p.uses.same.honest };
    failures = subst (λ (k : ℕ). RisesIf failed k (device h.source.now).failures) p.uses.failures q.uses.failures;
  };
  room = q.room ∙ p.room;
  same = record { source = q.same.source ∙ p.same.source; blob = q.same.blob ∙ p.same.blob; room = q.same.room ∙ p.same.room };
}
