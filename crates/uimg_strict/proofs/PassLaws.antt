-- What a `?` passes on.
use Rattle.std.proofs.Common.{◌≡◌, ℕ, List, Option, true, Result, Err, sym, subst}
use Rattle.std.specs.Result.{IsErrAnd}
use Rattle.std.proofs.lemmas.Bool.{false≢true}
use Rattle.uimg_fit_base.specs.declared.fault.Fault.TheVariants as of
use Rattle.uimg_fit_checking.specs.FullSurvey.{ReadsAs}
use Rattle.uimg_fit_checking.specs.SurveyParts.{is_own}
use Rattle.uimg_fit_checking.specs.declared.surveying.fault.SurveyFault.{SurveyFault}
use Rattle.uimg_fit_checking.specs.declared.surveying.fault.SurveyFault.TheVariants.{Stopped, OutOfMemory, Changed}
use Rattle.uimg_strict.specs.declared.loose.Loose.{Loose}
use Rattle.uimg_strict.specs.Telling.{TellsLooseness}
use Rattle.uimg_fit_reading.proofs.PassedLaws.{passed_on}

pub own_passed : {X Y : Type 0} (read : X → Y) (said : Y) (r : Result X SurveyFault) (e : SurveyFault) → IsErrAnd r (λ g. g ≡ e) → is_own e ≡ true → ReadsAs read said r
own_passed {X = X} read said r e is own = subst (λ (x : Result X SurveyFault). ReadsAs read said x) (sym (passed_on r e is)) own

own_fault : (file : List ℕ) (e : SurveyFault) → is_own e ≡ true → TellsLooseness file (Err e)
own_fault file (Stopped (of.Blob fault at)) own = absurd (false≢true own)
own_fault file (Stopped (of.Fit fault)) own = absurd (false≢true own)
own_fault file (Stopped of.Read) own = tt
own_fault file (Stopped of.Put) own = absurd (false≢true own)
own_fault file OutOfMemory own = tt
own_fault file Changed own = absurd (false≢true own)

pub own_tells : (file : List ℕ) (r : Result (Option Loose) SurveyFault) (e : SurveyFault) → IsErrAnd r (λ g. g ≡ e) → is_own e ≡ true → TellsLooseness file r
own_tells file r e is own = subst (λ (x : Result (Option Loose) SurveyFault). TellsLooseness file x) (sym (passed_on r e is)) (own_fault file e own)
