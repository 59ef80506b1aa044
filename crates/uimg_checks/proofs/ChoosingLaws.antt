-- What is told of the images that a configuration names.
use Rattle.std.proofs.Common.{◌≡◌, ℕ, List, None, Result, Ok, Err, IfOk, Bool, true, false, if◌then◌else◌, ap, sym, subst, refl, ◌∙◌, true≢false}
use Rattle.std.proofs.lemmas.Bool.{false≢true}
use Rattle.uimg_blob_reading.specs.Faults.{refuses_memory}
use Rattle.uimg_engine.specs.Faults.{of_fit}
use Rattle.uimg_engine.specs.declared.fault.Fault.{Fault}
use Rattle.uimg_engine.specs.declared.fault.Fault.TheVariants as engine
use Rattle.uimg_fit_base.specs.declared.fault.Fault.{Fault as FitEngineFault}
use Rattle.uimg_fit_base.specs.declared.fault.Fault.TheVariants as of
use Rattle.uimg_fit_checking.specs.Survey.{read_survey, survey_of}
use Rattle.uimg_fit_checking.specs.SurveyParts.{IsOwn, Surveys}
use Rattle.uimg_fit_checking.specs.declared.surveying.facts.Survey.{Survey}
use Rattle.uimg_fit_checking.specs.declared.surveying.fault.SurveyFault.{SurveyFault}
use Rattle.uimg_fit_checking.specs.declared.surveying.fault.SurveyFault.TheVariants.{Stopped, OutOfMemory, Changed}
use Rattle.uimg_checks.specs.CheckEnds.{AnswersFault, Shows}
use Rattle.uimg_checks.specs.Choices.{IsChoice, IsFailed, ShowsLegacy, ShowsUnchosen, TellsChoice, Unchosen, chosen_by, chosen_from, images_named, is_legacy, lacks, or_lacks, refuses}
use Rattle.uimg_checks.specs.References.{MissingSaid}
use Rattle.uimg_checks.specs.FaultStatuses.{fault_status}
use Rattle.uimg_checks.proofs.VerdictLaws.{fault_shown, told_fault, unread_shows}
use Rattle.uimg_checks.specs.Verdicts.{Lacks, Refuses, Verdict, Finds}
use Rattle.uimg_checks.specs.declared.answer.Answer.{Answer, TheVariants.{Failed, Found, Loose, Missing, Refused}}
use Rattle.uimg_checks.specs.declared.choosing.Choice.{Choice}
use Rattle.uimg_checks.specs.declared.choosing.Choice.TheVariants.{Names, Lost}
use Rattle.uimg_checks.specs.declared.finding.Checked.TheVariants as checked

-- by the facts of a file
pub chosen_surveyed : (asked file : List ℕ) (survey : Survey) (r : Result Choice SurveyFault) → survey_of file ≡ Ok (read_survey file survey) → IsOwn r → IfOk r (IsChoice file (images_named asked (read_survey file survey)))
    → TellsChoice (chosen_by true asked file) file r
chosen_surveyed asked file survey (Ok (Names names)) is own told = (told.0, ap (chosen_from asked) is ∙ ap or_lacks told.1, told.2)
chosen_surveyed asked file survey (Ok (Lost missing)) is own told = ap (chosen_from asked) is ∙ ap or_lacks told
chosen_surveyed asked file survey (Err (Stopped (of.Blob fault at))) is own told = absurd (false≢true own)
chosen_surveyed asked file survey (Err (Stopped (of.Fit fault))) is own told = absurd (false≢true own)
chosen_surveyed asked file survey (Err (Stopped of.Read)) is own told = tt
chosen_surveyed asked file survey (Err (Stopped of.Put)) is own told = absurd (false≢true own)
chosen_surveyed asked file survey (Err OutOfMemory) is own told = tt
chosen_surveyed asked file survey (Err Changed) is own told = absurd (false≢true own)

-- a file that is refused
pub unsurveyed : (asked file : List ℕ) (fault : SurveyFault) → Surveys file (Err fault) → TellsChoice (chosen_by true asked file) file (Err fault)
unsurveyed asked file (Stopped (of.Blob fault at)) is = λ kept. ap (chosen_from asked) (is kept)
unsurveyed asked file (Stopped (of.Fit fault)) is = ap (chosen_from asked) is
unsurveyed asked file (Stopped of.Read) is = tt
unsurveyed asked file (Stopped of.Put) is = absurd is
unsurveyed asked file OutOfMemory is = tt
unsurveyed asked file Changed is = absurd is

-- an answer that shows any verdict is that the command failed
fails : (answer : Answer) → ((verdict : Verdict) → Shows answer verdict) → IsFailed answer
fails (Failed stop) shows = tt
fails (Found found more) shows = absurd (shows (Refuses engine.Read))
fails (Missing configuration property name) shows = absurd (shows (Refuses engine.Read))
fails (Loose shown why name signatures) shows = absurd (shows (Refuses engine.Read))
fails (Refused stop) shows = absurd (shows (Finds checked.Right None))

legacy_fails : (answer : Answer) → ((verdict : Verdict) → Shows answer verdict) → ShowsLegacy answer
legacy_fails (Failed stop) shows = tt
legacy_fails (Found found more) shows = absurd (shows (Refuses engine.Read))
legacy_fails (Missing configuration property name) shows = absurd (shows (Refuses engine.Read))
legacy_fails (Loose shown why name signatures) shows = absurd (shows (Refuses engine.Read))
legacy_fails (Refused stop) shows = absurd (shows (Finds checked.Right None))

-- .. whatever is chosen
pub failed_shown : (answer : Answer) (chosen : Result (List (List ℕ)) Unchosen) → ((verdict : Verdict) → Shows answer verdict) → ShowsUnchosen answer chosen
failed_shown answer (Ok names) shows = fails answer shows
failed_shown answer (Err (lacks missing)) shows = shows (Lacks missing)
failed_shown answer (Err (refuses fault)) shows = shows (Refuses fault)
failed_shown answer (Err is_legacy) shows = legacy_fails answer shows

pub memory_shown : (answer : Answer) (chosen : Result (List (List ℕ)) Unchosen) → AnswersFault engine.OutOfMemory answer → ShowsUnchosen answer chosen
memory_shown answer chosen answers =
    failed_shown answer chosen (λ verdict. told_fault true engine.OutOfMemory answer verdict refl (λ off. absurd (true≢false off)) (fault_shown engine.OutOfMemory answer answers))

by_memory : (file : List ℕ) (chosen : Result (List (List ℕ)) Unchosen) (fault : Fault) (answer : Answer) (b refused : Bool) → refused ≡ b → fault_status fault ≡ (if refused then 3 else 1) → (refused ≡ false → chosen ≡ Err (refuses fault)) → AnswersFault fault answer
    → ShowsUnchosen answer chosen
by_memory file chosen fault answer true refused is status told answers =
    failed_shown answer chosen (λ verdict. told_fault refused fault answer verdict status (λ off. absurd (true≢false (sym is ∙ off))) (fault_shown fault answer answers))
by_memory file chosen fault answer false refused is status told answers =
    subst (λ (c : Result (List (List ℕ)) Unchosen). ShowsUnchosen answer c) (sym (told is)) (fault_shown fault answer answers)

-- a fault
pub fault_unchosen : (file : List ℕ) (chosen : Result (List (List ℕ)) Unchosen) (fault : FitEngineFault) (answer : Answer) → TellsChoice chosen file (Err (Stopped fault)) → AnswersFault (of_fit fault) answer → ShowsUnchosen answer chosen
fault_unchosen file chosen (of.Blob fault at) answer told answers = by_memory file chosen (engine.Blob fault at) answer (refuses_memory fault) (refuses_memory fault) refl refl told answers
fault_unchosen file chosen (of.Fit fault) answer told answers =
    subst (λ (c : Result (List (List ℕ)) Unchosen). ShowsUnchosen answer c) (sym told) (fault_shown (engine.Fit fault) answer answers)
fault_unchosen file chosen of.Read answer told answers = failed_shown answer chosen (λ verdict. unread_shows answer verdict answers)
fault_unchosen file chosen of.Put answer told answers = absurd told

pub missing_unchosen : (chosen : Result (List (List ℕ)) Unchosen) (said : MissingSaid) (answer : Answer) → chosen ≡ Err (lacks said) → Shows answer (Lacks said) → ShowsUnchosen answer chosen
missing_unchosen chosen said answer is shows = subst (λ (c : Result (List (List ℕ)) Unchosen). ShowsUnchosen answer c) (sym is) shows
