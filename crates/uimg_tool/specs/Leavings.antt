-- What a refused unpacking leaves as it was.
use Rattle.std.specs.Prelude.{◌≡◌, ℕ, List, ◌==◌, ◌||◌, Bool, true, false}
use Rattle.uimg_cli.specs.declared.command_line.unpack.UnpackRequest.{UnpackRequest}
use Rattle.uimg_tool.specs.EndingStatuses.{ending_status}
use Rattle.uimg_tool.specs.declared.unpack_answers.Ending.{Ending}
use Rattle.uimg_unpacking.specs.Leaving.{Leaves}
use Rattle.uimg_unpacking.specs.declared.unpacking.Unpacking.{Unpacking}
use Rattle.uimg_world.specs.Deeds.{Deed}

-- the status of a refused image or command line; at 3 something failed
abbrev pub is_refusal : ℕ → Bool
is_refusal status = status == 1 || status == 2

-- At such an end the folder has what it had, unless good payloads are kept.
abbrev pub LeavesEnding : Unpacking → Ending → (before after : List Deed) → Type 0
LeavesEnding asked end before after =
    asked.keeps_good ≡ false → is_refusal (ending_status end) ≡ true → Leaves asked.folder.path.now before after

-- the same by the status; without JSON, which has other statuses
abbrev pub LeavesAsked : UnpackRequest → ℕ → (before after : List Deed) → Type 0
LeavesAsked asked status before after =
    asked.keeps_good ≡ false → asked.as_json ≡ false → is_refusal status ≡ true → Leaves asked.folder.now before after
