-- What an unpacking means, and what it keeps to whatever comes of it.
use Rattle.std.specs.Prelude.{◌≡◌, ◌⊎◌, ℕ, List, Option, Some, None, IsTrue, false}
use Rattle.std.specs.Borrow.{Bor}
use Rattle.uimg_base.specs.Named.{FileMap}
use Rattle.uimg_cli.specs.declared.command_line.unpack.UnpackRequest.{UnpackRequest}
use Rattle.uimg_tool.specs.{Answering.Meant, Checking.{KeysAt, keys_read}, EndingStatuses.ending_status, Leavings.LeavesAsked, UnpackComplaints.{EndsAsked, told_of_unpacking}, Unpackings.{KeepsImage, RightAt}}
use Rattle.uimg_tool.specs.declared.unpack_answers.Ending.{Ending}
use Rattle.uimg_verifying.specs.declared.required.Required.{Required}
use Rattle.uimg_world.specs.Deeds.{Deed, changes}

-- What is told is that of how the unpacking of the file at a path ended. Without JSON the status is that of it, too.
pub record TellsUnpacked (files : FileMap) (asked : UnpackRequest) (keys : Option Required) (path : Bor (List ℕ)) (status : ℕ)
    (told : Option (Option (List ℕ))) : Type 0 where
  pub end : Ending
  pub ends : EndsAsked files asked keys path end
  pub is : asked.as_json ≡ false → status ≡ ending_status end
  pub tells : told ≡ told_of_unpacking path.now asked.as_json end

-- the same of the image of a request; without an image nothing is told
abbrev pub TellsImage : FileMap → UnpackRequest → Option Required → Option (Bor (List ℕ)) → ℕ → Option (Option (List ℕ)) → Type 0
TellsImage files asked keys None status told = told ≡ None
TellsImage files asked keys (Some path) status told = TellsUnpacked files asked keys path status told

-- The status is 0 only if all that is asked for is right. What is told is that of how it ended.
pub record UnpacksBy (files : FileMap) (asked : UnpackRequest) (keys : Option Required) (before after : List Deed) (status : ℕ)
    (told : Option (Option (List ℕ))) : Type 0 where
  pub right : status ≡ 0 → RightAt files asked keys asked.image before after
  pub tells : TellsImage files asked keys asked.image status told

-- The keys are those of the file of keys, which is opened before, if there is one. Where the folder is cleaned before,
-- this is not said.
abbrev pub MeansUnpack : UnpackRequest → FileMap → (before after : List Deed) → Meant
MeansUnpack asked files before after status told old new = asked.cleans ≡ false
    → (keys : Option Required) × KeysAt files asked.key keys × UnpacksBy files asked keys (keys_read asked.key before) after status told

-- Whatever comes of it, over an honest world no file is changed, or the keys are read before, and they sign the image. At
-- status 1 or 2 the folder is left as it was. Where it is cleaned before, this is not said.
pub record KeepsTo (asked : UnpackRequest) (files : FileMap) (status : ℕ) (before after : List Deed) : Type 0 where
  pub keyed : IsTrue files.honest → (changes after ≡ changes before)
      ⊎ ((keys : Option Required) × KeysAt files asked.key keys × KeepsImage files keys asked.image (keys_read asked.key before) after)
  pub left : LeavesAsked asked status before after

abbrev pub GuardsUnpack : UnpackRequest → FileMap → ℕ → (before after : List Deed) → Type 0
GuardsUnpack asked files status before after = asked.cleans ≡ false → KeepsTo asked files status before after
