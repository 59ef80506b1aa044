-- What a command on an image answers by the names of mkimage and dumpimage.
use Rattle.std.specs.Prelude.{◌≡◌, ◌⊎◌, ℕ, List, [], ◌∷◌, Option, Some, Bool, true, false}
use Rattle.std.specs.Io.KnownBytes.{Appends}
use Rattle.uimg_base.specs.Named.{FileMap}
use Rattle.uimg_requests.specs.declared.requests.RunRequest.{RunRequest}
use Rattle.uimg_tool.specs.{Answering.OfFile, Images.{IsExtracted, outcome_on, outcome_status}, Writings.LeadsInPlace}
use Rattle.uimg_world.specs.Deeds.{Deed, Opens}

-- what is printed of a text
abbrev pub printed : (is_quiet : Bool) → List ℕ → List ℕ
printed true text = []
printed false text = text

-- The outcome of the file at the image's path gives the status, and exactly its text was printed, or
-- nothing if the command is to be quiet.
abbrev pub PrintsOutcome : Bool → RunRequest → FileMap → ℕ → (old new : Option (List ℕ)) → Type 0
PrintsOutcome is_quiet asked files status old new = (file : List ℕ) × (files.bytes asked.image.now ≡ Some file)
    × (status ≡ outcome_status (outcome_on asked file).end) × Appends old new (printed is_quiet (outcome_on asked file).text)

-- The outcome of the file at the image's path gives the status, and its text is in a file that was closed.
abbrev pub ExtractsOutcome : RunRequest → FileMap → ℕ → (old new : Option (List ℕ)) → Type 0
ExtractsOutcome asked files status old new = (path : List ℕ) × (seen : List Deed) × (told : Option (Option (List ℕ)))
    × OfFile files asked.image.now (IsExtracted asked path seen) status told old new

-- An extraction is answered so, or the status is 3, or 2 where the new file would be the image's. Of what is written in
-- place, to a device or a pipe, nothing is said.
abbrev pub AnswersOldExtraction : RunRequest → List ℕ → FileMap → ℕ → (old new : Option (List ℕ)) → (before : List Deed) → Type 0
AnswersOldExtraction asked path files status old new before =
    (status ≡ 3) ⊎ (status ≡ 2) ⊎ ExtractsOutcome asked files status old new
    ⊎ ((opened : Bool) × (seen : List Deed) × LeadsInPlace path (Opens asked.image.now opened ∷ before) seen)
