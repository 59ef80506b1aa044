-- What an answer shows of a file.
use Rattle.std.proofs.Common.{◌≡◌, ℕ, List, Bool, true, false, if◌then◌else◌, IsTrue, refl, sym, subst, arith}
use Rattle.uimg_base.specs.{Device.{Device, SameDevice}}
use Rattle.uimg_checks.specs.declared.answer.Answer.{Answer}
use Rattle.uimg_checks.specs.declared.answer.Answer.TheVariants.{Found, Missing, Loose, Refused, Failed}
use Rattle.uimg_engine.specs.declared.fault.Fault.{Fault}
use Rattle.uimg_engine.specs.declared.fault.Fault.TheVariants as engine
use Rattle.uimg_checks.specs.CheckEnds.{AnswersFault, Shows}
use Rattle.uimg_checks.specs.FaultStatuses.{fault_status}
use Rattle.uimg_checks.specs.Verdicts.{Verdict, Refuses}

pub fault_shown : (fault : Fault) (answer : Answer) → AnswersFault fault answer → Shows answer (Refuses fault)
fault_shown fault (Failed stop) told = tt
fault_shown fault (Found found more) told = absurd told
fault_shown fault (Missing configuration property name) told = absurd told
fault_shown fault (Loose shown why name signatures) told = absurd told
fault_shown fault (Refused stop) told = told

-- a fault of status 3 refuses no file
pub failure_shown : (fault : Fault) (answer : Answer) (verdict : Verdict) → fault_status fault ≡ 3 → Shows answer (Refuses fault) → Shows answer verdict
failure_shown fault (Failed stop) verdict three shows = tt
failure_shown fault (Found found more) verdict three shows = absurd shows
failure_shown fault (Missing configuration property name) verdict three shows = absurd shows
failure_shown fault (Loose shown why name signatures) verdict three shows = absurd shows
failure_shown fault (Refused stop) verdict three shows = absurd (omega (arith, three, shows.status))

pub unread_shows : (answer : Answer) (verdict : Verdict) → AnswersFault engine.Read answer → Shows answer verdict
unread_shows answer verdict told = failure_shown engine.Read answer verdict refl (fault_shown engine.Read answer told)

-- a fault by which a file is refused, unless memory failed
pub told_fault : (refuses : Bool) (fault : Fault) (answer : Answer) (verdict : Verdict) → fault_status fault ≡ (if refuses then 3 else 1)
    → (refuses ≡ false → verdict ≡ Refuses fault) → Shows answer (Refuses fault) → Shows answer verdict
told_fault true fault answer verdict status is shows = failure_shown fault answer verdict status shows
told_fault false fault answer verdict status is shows = subst (λ (v : Verdict). Shows answer v) (sym (is refl)) shows

-- what is so over a source that is what it was
pub over : (d e : Device) (P : List ℕ → Type 0) → SameDevice d e → (IsTrue e.honest → P e.bytes) → IsTrue d.honest → P d.bytes
over d e P same told honest = subst P same.bytes (told (subst (λ (b : Bool). IsTrue b) (sym same.honest) honest))
