-- What a command by the names of mkimage and dumpimage means, over the files of a world, and which of them it may change.
use Rattle.std.specs.Prelude.{◌≡◌, ◌≢◌, ⊤, ◌⊎◌, ℕ, List, ◌∷◌, codes, IsTrue, Bool, false, Option, Some, None, Result, Ok, Err}
use Rattle.uimg_base.specs.{Device.Device, Named.FileMap}
use Rattle.std.specs.Borrow.{Bor}
use Rattle.uimg_compat.specs.declared.{fault.OldFault.OldFault, request.{OldRequest.OldRequest, Show.Show}}
use Rattle.uimg_compat.specs.declared.request.OldRequest.TheVariants as old
use Rattle.uimg_requests.specs.declared.requests.RunRequest.{RunRequest}
use Rattle.uimg_tool.specs.OldImages.{AnswersOldExtraction, PrintsOutcome}
use Rattle.uimg_tool.specs.OldMakings.{AnswersOldMaking, MakesFor, MakesWithin, UpdatesFor}
use Rattle.uimg_tool.specs.{OldTexts.{ShowsText, shown_status}, Programs.{ReadsOld, epoch_of, words_of}, Statuses.old_words_status}
use Rattle.uimg_tool.specs.TreesMade.{BuildsPath, KeepsUpdated}
use Rattle.uimg_tool.specs.declared.{command_line.CommandLine.CommandLine, old_tools.Tool.Tool}
use Rattle.uimg_world.specs.Deeds.{Deed, LendsReader, changes}
use Rattle.uimg_world.specs.declared.file_id.FileId.{FileId}

-- what a world's shelves keep, in place and in a new file, and the file at each path
pub record Kept (K N : Type 0) : Type 0 where
  pub there : K → Device
  pub new : N → Device
  pub identities : List ℕ → Option FileId

-- a text is printed
abbrev pub IsShownOld : Tool → Show → ℕ → (old new : Option (List ℕ)) → Type 0
IsShownOld tool show status old new = (status ≡ 3) ⊎ ((status ≡ shown_status show) × ShowsText tool show old new)

-- a command on an image, which prints, or extracts to the file at a path
abbrev pub RunsOld : (is_quiet : Bool) → RunRequest → Option (Bor (List ℕ)) → FileMap → List Deed → ℕ → (old new : Option (List ℕ)) → Type 0
RunsOld is_quiet it None files before status old new = (status ≡ 3) ⊎ PrintsOutcome is_quiet it files status old new
RunsOld is_quiet it (Some path) files before status old new = AnswersOldExtraction it path.now files status old new before

-- What a request comes to. Over honest files this is said of a command on an image, of a legacy image but with -x,
-- of the text at a path, and of an update; of the tree of another source nothing is said.
abbrev pub OldMeans : {K N : Type 0} → Kept K N → Tool → OldRequest → FileMap → List Deed → ℕ → (old new : Option (List ℕ)) → Type 0
OldMeans kept tool (old.Run it is_quiet) files before status was now = IsTrue files.honest → RunsOld is_quiet it it.outfile files before status was now
OldMeans kept tool (old.Make it is_quiet) files before status was now = IsTrue files.honest → it.is_xip ≡ false
    → AnswersOldMaking is_quiet kept.there kept.new kept.identities it files status was now
OldMeans kept tool (old.MakeFit it) files before status was now = it.source.now ≢ codes "-" → BuildsPath kept.there kept.new it files status
OldMeans kept tool (old.MakeAuto it) files before status was now = ⊤
OldMeans kept tool (old.Update it) files before status was now = IsTrue files.honest → status ≡ 0 → KeepsUpdated kept.new it files
OldMeans kept tool (old.Show show) files before status was now = IsShownOld tool show status was now

-- A command on an image that prints changes no file, and an image is made for its path alone.
abbrev pub RunChanges : Option (Bor (List ℕ)) → (before after : List Deed) → Type 0
RunChanges None before after = changes after ≡ changes before
RunChanges (Some path) before after = ⊤

abbrev pub OldChanges : OldRequest → ℕ → (before after : List Deed) → Type 0
OldChanges (old.Run it is_quiet) status before after = RunChanges it.outfile before after
OldChanges (old.Make it is_quiet) status before after = MakesFor it.outfile.now status (LendsReader ∷ before) after
OldChanges (old.MakeFit it) status before after = MakesWithin it.outfile.now status before after
OldChanges (old.MakeAuto it) status before after = MakesWithin it.outfile.now status before after
OldChanges (old.Update it) status before after = UpdatesFor it.image.now status before after
OldChanges (old.Show show) status before after = after ≡ before

-- What is printed was written out.
abbrev pub IsFlushed : OldRequest → ℕ → Type 0
IsFlushed (old.Run it is_quiet) status = status ≢ 3
IsFlushed (old.Make it is_quiet) status = status ≡ 0
IsFlushed (old.Show show) status = status ≢ 3
IsFlushed asked status = ⊥

-- A request is carried out. Unless the status is 3, it comes to something that it means, and what that prints is in the
-- output where it was written out. No more is changed than it changes, or memory was refused before anything was done.
pub record CarriesOutOld {K N : Type 0} (kept : Kept K N) (tool : Tool) (asked : OldRequest) (files : FileMap) (status : ℕ)
    (was now : Option (List ℕ)) (before after : List Deed) : Type 0 where
  pub changes : ((status ≡ 3) × (after ≡ before)) ⊎ OldChanges asked status before after
  pub means : (status ≡ 3) ⊎ ((mid : Option (List ℕ)) × OldMeans kept tool asked files before status was mid × (IsFlushed asked status → now ≡ mid))

-- words that are refused: nothing is done or printed
abbrev pub AnswersOldRead : {K N : Type 0} → Kept K N → Tool → Result OldRequest OldFault → FileMap → ℕ → (was now : Option (List ℕ)) → (before after : List Deed) → Type 0
AnswersOldRead kept tool (Ok asked) files status was now before after = CarriesOutOld kept tool asked files status was now before after
AnswersOldRead kept tool (Err fault) files status was now before after = (status ≡ old_words_status fault) × (now ≡ was) × (after ≡ before)

-- What the definition of the tool's arguments reads from the words is carried out, or they are refused.
pub record AnswersTool {K N : Type 0} (kept : Kept K N) (tool : Tool) (line : CommandLine) (files : FileMap) (status : ℕ)
    (was now : Option (List ℕ)) (before after : List Deed) : Type 0 where
  pub asked : Result OldRequest OldFault
  pub reads : ReadsOld tool (epoch_of line) line.time (words_of line) asked
  pub answers : AnswersOldRead kept tool asked files status was now before after
