-- What is told of a file whose survey was made.
use Rattle.std.proofs.Common.{◌≡◌, List, ℕ, Result, Ok, Err, IfOk, sym}
use Rattle.json.specs.{Json.Json, Print.print, Tree.json_tokens}
use Rattle.uimg_blob_reading.proofs.PhaseLaws.{true_false}
use Rattle.uimg_fit_base.specs.declared.fault.Fault.TheVariants as of
use Rattle.uimg_fit_checking.specs.SurveyParts.{IsOwn}
use Rattle.uimg_fit_checking.specs.declared.surveying.fault.SurveyFault.{SurveyFault}
use Rattle.uimg_fit_checking.specs.declared.surveying.fault.SurveyFault.TheVariants.{Stopped, OutOfMemory, Changed}
use Rattle.uimg_info.specs.{Fit.info_of, Steps.Informs}

pub informs : {X : Type 0} (view : X → List ℕ) (path file : List ℕ) (r : Result X SurveyFault) (j : Json) → info_of path file ≡ Ok j → IsOwn r → IfOk r (λ x. view x ≡ print (json_tokens j)) → Informs view path file r
informs view path file (Ok x) j e own told = (j, e, told)
informs view path file (Err OutOfMemory) j e own told = tt
informs view path file (Err Changed) j e own told = absurd (true_false (sym own))
informs view path file (Err (Stopped of.Read)) j e own told = tt
informs view path file (Err (Stopped of.Put)) j e own told = absurd (true_false (sym own))
informs view path file (Err (Stopped (of.Blob fault at))) j e own told = absurd (true_false (sym own))
informs view path file (Err (Stopped (of.Fit fault))) j e own told = absurd (true_false (sym own))
