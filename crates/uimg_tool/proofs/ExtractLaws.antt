-- What was extracted to a file is what the outcome of the image means.
use Rattle.std.proofs.Common.{◌≡◌, inl, inr, ℕ, List, [], ◌∷◌, Option, Some, None, Err, Bool, IsTrue, true, false, refl, ap, subst, ◌∙◌}
use Rattle.std.specs.{Borrow.Bor, Io.KnownBytes.{Appends}}
use Rattle.std.proofs.KnownBytes.{Keeps-refl}
use Rattle.uimg_base.specs.{Device.Device, Named.{FileMap, Opens}}
use Rattle.uimg_requests.specs.declared.requests.RunRequest.{RunRequest}
use Rattle.uimg_tool.specs.{Answering.Comes, FaultTexts.told_of_end}
use Rattle.uimg_tool.specs.Images.{Compares, IsExtracted, IsOutcome, IsWritten, MeansRun, outcome_on}
use Rattle.uimg_tool.specs.declared.request_fault.RequestFault.TheVariants as request
use Rattle.uimg_world.specs.Deeds.{Closes, ClosesFile, Deed, Opens as Opened}
use Rattle.uimg_world.specs.declared.call.Answer.{Answer}
use Rattle.uimg_world.specs.declared.call.Answer.TheVariants.{Done}

-- what a file has to which a text was appended when it was empty
has_text : (new : Option (List ℕ)) (text : List ℕ) → Appends (Some []) new text → new ≡ Some text
has_text None text wrote = absurd wrote
has_text (Some bytes) text wrote = ap Some wrote

-- an empty file that a text was written to, and that was closed
pub extracted : (asked : RunRequest) (path : List ℕ) (knows : Bool) (mid after : List Deed) (file : List ℕ) (status : ℕ) (told : Option (Option (List ℕ))) (answer : Answer) (empty new known : Option (List ℕ)) → IsTrue knows
    → empty ≡ Some [] → answer ≡ Done → Comes (IsOutcome asked file) status told empty new → ClosesFile knows path false new answer mid after → Comes (IsExtracted asked path after file) status told known known
extracted asked path knows mid after file status told answer empty new known know begins did (inl failed) closed = inl failed
extracted asked path knows mid after file status told answer empty new known know begins did (inr came) closed =
    let text = has_text new (outcome_on asked file).text (subst (λ (e : Option (List ℕ)). Appends e new (outcome_on asked file).text) begins came.2) in
    inr (record {
      is = came.0;
      tells = came.1;
      before = mid;
      holds = closed.is ∙ ap (λ (held : Option (List ℕ)). Closes path false held answer ∷ mid) (closed.known know ∙ text) ∙ ap (λ (a : Answer). Closes path false (Some (outcome_on asked file).text) a ∷ mid) did;
      silent = Keeps-refl known;
    })

-- the new file would be the image's
pub over_image : (asked : RunRequest) (path : Bor (List ℕ)) (before after : List Deed) (file : List ℕ) (known : Option (List ℕ)) → Compares path.now asked.image.now true before after
    → Comes (IsWritten asked path before after file) 2 (told_of_end (Err (request.WritesWhatIsRead path))) known known
over_image asked path before after file known compares = inr (inl (compares, refl, refl, Keeps-refl known))

-- it would not
pub apart : (asked : RunRequest) (path : Bor (List ℕ)) (before after : List Deed) (file : List ℕ) (status : ℕ) (told : Option (Option (List ℕ))) (known : Option (List ℕ))
    → Comes (IsExtracted asked path.now after file) status told known known → Comes (IsWritten asked path before after file) status told known known
apart asked path before after file status told known (inl failed) = inl failed
apart asked path before after file status told known (inr is) = inr (inr is)

-- the same of an image that was opened
pub written : (files : FileMap) (asked : RunRequest) (path : Bor (List ℕ)) (d : Device) (before seen after : List Deed) (status : ℕ) (told : Option (Option (List ℕ))) (known : Option (List ℕ)) → IsTrue files.honest → Opens files asked.image.now d
    → seen ≡ Opened asked.image.now true ∷ before → (IsTrue d.honest → Comes (IsWritten asked path seen after d.bytes) status told known known) → Comes (MeansRun asked (Some path) files before after) status told known known
written files asked path d before seen after status told known honest opens is comes = each (comes (opens.honest honest)) where
  each : Comes (IsWritten asked path seen after d.bytes) status told known known → Comes (MeansRun asked (Some path) files before after) status told known known
  each (inl failed) = inl failed
  each (inr meant) = inr (d.bytes, opens.bytes honest, subst (λ (t : List Deed). IsWritten asked path t after d.bytes status told known known) is meant)
