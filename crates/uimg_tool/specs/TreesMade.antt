-- The image of a tree, which is kept in its file.
use Rattle.std.specs.Prelude.{◌≡◌, ◌⊎◌, ℕ, List, [], length, Option, Some, None, Ok, IsTrue, Bool, true, false, if◌then◌else◌}
use Rattle.uimg_base.specs.{Device.Device, Named.FileMap}
use Rattle.uimg_blob_reading.specs.Plain.{Nodes}
use Rattle.uimg_blob_writing.specs.Content.{AreKept, Unread, in_full}
use Rattle.uimg_blob_writing.specs.declared.reservation.Reservation.{Reservation}
use Rattle.uimg_compat.specs.declared.request.{FitRequest.FitRequest, UpdateRequest.UpdateRequest}
use Rattle.uimg_engine.specs.MakingOfTrees.{MakesOfTree}
use Rattle.uimg_fit_base.specs.Placements.{aligned_by}
use Rattle.uimg_fit_base.specs.declared.placement.Placement.{Placement, TheVariants.{Inside, After, At}}
use Rattle.uimg_fit_base.specs.declared.placement.AlignedPlacement.{AlignedPlacement}
use Rattle.uimg_fit_base.specs.declared.placement.AlignedPlacement.TheVariants as aligned
use Rattle.uimg_fit_building.specs.{PayloadSums.no_files, Refusing.fill_by}
use Rattle.uimg_fit_updating.specs.Updating.{IsUpdated}
use Rattle.uimg_texts.specs.declared.naming.Naming.TheVariants.{All}
use Rattle.uimg_requests.specs.Requests.{folder_of}
use Rattle.uimg_its.specs.{Grammar.Spells, Words.words}
use Rattle.uimg_tool.specs.{LeavingOut.in_folder, declared.{old_files.Begun.Begun, tree_program.TreeRequest.TreeRequest}}

-- What is kept is the image of a tree with reservations.
abbrev pub MakesFrom : {K : Type 0} → (K → Device) → List Reservation → Nodes → AlignedPlacement → Type 0
MakesFrom {K = K} device reserved t placement = (kept : K) × MakesOfTree reserved t placement (device kept)

-- the same as a request says
abbrev pub MakesKept : {K : Type 0} → (K → Device) → TreeRequest → Nodes → Type 0
MakesKept device asked t = MakesFrom device asked.reservations.now t asked.placement

-- the same in a new file, or in place where the request takes that
abbrev pub KeepsIn : {K N : Type 0} → Bool → (K → Device) → (N → Device) → TreeRequest → Nodes → Type 0
KeepsIn true there new asked t = MakesKept there asked t ⊎ MakesKept new asked t
KeepsIn false there new asked t = MakesKept new asked t

abbrev pub KeepsTree : {K N : Type 0} → (K → Device) → (N → Device) → TreeRequest → Nodes → Type 0
KeepsTree there new asked t = KeepsIn asked.in_place there new asked t

abbrev pub KeepsBegun : {F K N : Type 0} → Option (Begun F) → (K → Device) → (N → Device) → TreeRequest → Nodes → Type 0
KeepsBegun None there new asked t = MakesKept there asked t
KeepsBegun (Some begun) there new asked t = MakesKept new asked t

-- The time that an update sets, if it sets one.
abbrev pub update_time : UpdateRequest → Option ℕ
update_time asked = if asked.sets_time then Some asked.manner.time else None

-- Where the payloads go: in the blob, which has this size, or after a blob without free room.
abbrev pub placed_in : Placement → ℕ → ℕ → AlignedPlacement
placed_in Inside align size = aligned.Inside size
placed_in After align size = aligned.After align
placed_in (At position) align size = aligned.At position align

abbrev pub placed_by : UpdateRequest → ℕ → AlignedPlacement
placed_by asked size = placed_in asked.placement asked.manner.align size

-- What is kept is the image of the updated tree of the file at the path, with its reservations and
-- its free room. Its values are its own: the tree of a file names no other file.
pub record KeepsUpdated {K : Type 0} (device : K → Device) (asked : UpdateRequest) (files : FileMap) : Type 0 where
  pub file : List ℕ
  pub has : files.bytes asked.image.now ≡ Some file
  pub nodes : Unread
  pub reserved : List Reservation
  pub size : ℕ
  pub is : IsUpdated file (update_time asked) nodes reserved size
  pub kept : AreKept no_files nodes
      → MakesFrom device reserved (in_full no_files nodes) (placed_by asked size)

-- What is kept is the image of a tree, filled at a time by the algorithms of the tools of U-Boot 2023.01.
pub record KeepsFilled {K : Type 0} (device : K → Device) (t : Nodes) (time : ℕ) (placement : AlignedPlacement) : Type 0 where
  pub filled : Nodes
  pub is : fill_by All time t ≡ Ok filled
  pub kept : MakesFrom device [] filled placement

-- the same in the file of the path, or in a new one
abbrev pub KeepsEither : {K N : Type 0} → (K → Device) → (N → Device) → Nodes → ℕ → AlignedPlacement → Type 0
KeepsEither there new t time placement = KeepsFilled there t time placement ⊎ KeepsFilled new t time placement

abbrev pub KeepsAsked : {K N : Type 0} → (K → Device) → (N → Device) → FitRequest → Nodes → Type 0
KeepsAsked there new asked t = KeepsEither there new t asked.manner.time (aligned_by asked.placement asked.manner.align)

-- At status 0 the image of the tree that a text spells is kept, if its files are looked for in one folder.
abbrev pub BuildsText : {K N : Type 0} → (K → Device) → (N → Device) → FitRequest → (folder text : List ℕ) → FileMap → ℕ → Type 0
BuildsText there new asked folder text files status = IsTrue files.honest → length asked.dtc.folders.items ≡ 0 → status ≡ 0
    → (t : Nodes) → Spells (words text) (in_folder folder files.bytes) t → KeepsAsked there new asked t

-- the same of the text at a path, whose files are in the folder of the path
abbrev pub BuildsPath : {K N : Type 0} → (K → Device) → (N → Device) → FitRequest → FileMap → ℕ → Type 0
BuildsPath there new asked files status =
    (text : List ℕ) → files.bytes asked.source.now ≡ Some text → BuildsText there new asked (folder_of asked.source.now) text files status
