-- What a command on one image means, and which calls it makes.
use Rattle.std.specs.Prelude.{◌≡◌, ◌⊎◌, ℕ, List, ◌∷◌, Option, Some, None, Result, Ok, Err, Bool, true, false}
use Rattle.std.specs.{Borrow.Bor, Io.KnownBytes.{Appends, Keeps}}
use Rattle.uimg_base.specs.{Named.FileMap, Outcome.{End, Outcome, done, not_right, refused}}
use Rattle.uimg_checks.specs.FaultStatuses.{fault_status}
use Rattle.uimg_engine.specs.Headline.{outcome_of}
use Rattle.uimg_engine.specs.declared.fault.Fault.{Fault}
use Rattle.uimg_requests.specs.declared.requests.RunRequest.{RunRequest}
use Rattle.uimg_tool.specs.{Answering.{Meant, OfFile}, FaultTexts.{told_of_outcome, writes_over}}
use Rattle.uimg_base.specs.declared.status.Status.{Status}
use Rattle.uimg_tool.specs.declared.request_fault.RequestFault.{RequestFault}
use Rattle.uimg_tool.specs.declared.request_fault.RequestFault.TheVariants as request
use Rattle.uimg_world.specs.{Deeds.{Deed, Closes, Identifies, Opens, Overwrites}, FileIds.is_image}
use Rattle.uimg_world.specs.declared.{call.Answer.Answer, file_id.FileId.FileId}
use Rattle.uimg_world.specs.declared.call.Answer.TheVariants.{Done}

-- the outcome of the requested command on a file
abbrev pub outcome_on : RunRequest → List ℕ → Outcome Fault
outcome_on asked file = outcome_of asked.naming asked.command file

-- the status of an outcome's end
abbrev pub outcome_status : End Fault → ℕ
outcome_status done = 0
outcome_status not_right = 1
outcome_status (refused fault) = fault_status fault

-- what the result of an engine comes to
abbrev pub run_end : Result Status Fault → Result Status RequestFault
run_end (Ok status) = Ok status
run_end (Err fault) = Err (request.Stopped fault)

-- The outcome on a file gives the status and what is told, and its text was printed.
abbrev pub IsOutcome : RunRequest → List ℕ → Meant
IsOutcome asked file status told old new = (status ≡ outcome_status (outcome_on asked file).end)
    × (told ≡ told_of_outcome (outcome_on asked file).end) × Appends old new (outcome_on asked file).text

-- The outcome gives the status and what is told, and nothing was printed: its text is in the file at a path, whose
-- closing was the last call.
pub record IsExtracted (asked : RunRequest) (path : List ℕ) (after : List Deed) (file : List ℕ) (status : ℕ) (told : Option (Option (List ℕ)))
    (old new : Option (List ℕ)) : Type 0 where
  pub is : status ≡ outcome_status (outcome_on asked file).end
  pub tells : told ≡ told_of_outcome (outcome_on asked file).end
  pub before : List Deed
  pub holds : after ≡ Closes path false (Some (outcome_on asked file).text) Done ∷ before
  pub silent : Keeps old new

-- Two paths lead to the same file exactly if the world finds the same one at each.
abbrev pub Compares : (path other : List ℕ) → Bool → (before after : List Deed) → Type 0
Compares path other is_same before after = (one : Option FileId) × (two : Option FileId)
    × (after ≡ Identifies other two ∷ Identifies path one ∷ before) × (is_same ≡ is_image one two)

-- The new file would be the image's, and was not touched.
abbrev pub IsOver : (image path : Bor (List ℕ)) → (before after : List Deed) → Meant
IsOver image path before after status told old new = Compares path.now image.now true before after
    × (status ≡ 2) × (told ≡ Some (writes_over path)) × Keeps old new

-- what an extraction from an open image to the file at a path means
abbrev pub IsWritten : RunRequest → Bor (List ℕ) → (before after : List Deed) → List ℕ → Meant
IsWritten asked path before after file status told old new = IsOver asked.image path before after status told old new
    ⊎ IsExtracted asked path.now after file status told old new

-- what a command on an image means, which prints, or extracts to the file at a path
abbrev pub MeansRun : RunRequest → Option (Bor (List ℕ)) → FileMap → (before after : List Deed) → Meant
MeansRun asked None files before after = OfFile files asked.image.now (IsOutcome asked)
MeansRun asked (Some path) files before after =
    OfFile files asked.image.now (IsWritten asked path (Opens asked.image.now true ∷ before) after)

-- a file was closed at a path
abbrev pub ClosesAt : List ℕ → (before after : List Deed) → Type 0
ClosesAt path before after = (held : Option (List ℕ)) × (answer : Answer) × (after ≡ Closes path false held answer ∷ before)

-- The file at a path was created or emptied, and closed; or it could not be created.
abbrev pub Writes : List ℕ → (before after : List Deed) → Type 0
Writes path before after = ((answer : Answer) × (after ≡ Overwrites path answer ∷ before))
    ⊎ ((seen : List Deed) × (seen ≡ Overwrites path Done ∷ before) × ClosesAt path seen after)

-- The path leads to the image, and nothing is written. Or it does not, and the file there is.
abbrev pub WritesApart : (image path : List ℕ) → (before after : List Deed) → Type 0
WritesApart image path before after = Compares path image true before after
    ⊎ ((seen : List Deed) × Compares path image false before seen × Writes path seen after)

-- An image is opened, and nothing else is; or the file at a path is written.
abbrev pub CallsToRun : RunRequest → Option (Bor (List ℕ)) → (before after : List Deed) → Type 0
CallsToRun asked None before after = (opened : Bool) × (after ≡ Opens asked.image.now opened ∷ before)
CallsToRun asked (Some path) before after = (after ≡ Opens asked.image.now false ∷ before)
    ⊎ WritesApart asked.image.now path.now (Opens asked.image.now true ∷ before) after
