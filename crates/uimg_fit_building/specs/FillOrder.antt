-- The order in which filling reads and refuses, over files of any sizes.
use Rattle.std.specs.Prelude.{◌≡◌, ◌≢◌, ℕ, List, [], ◌∷◌, ◌++◌, Bool, IsTrue, Option, Some, None}
use Rattle.std.specs.{Prelude.{Result, Ok, Err, ⊤}, List.AllByRecursion, Option.IsSomeAnd}
use Rattle.uimg_texts.specs.declared.naming.Naming.{Naming}
use Rattle.uimg_base.specs.Named.{FileMap}
use Rattle.uimg_blob_reading.specs.LookUps.{NodeOf, hashes}
use Rattle.uimg_blob_writing.specs.Content.{Content}
use Rattle.uimg_fit_base.specs.declared.fault.FitFault.{FitFault}
use Rattle.uimg_fit_base.specs.declared.fault.FitFault.TheVariants.{NoImages, NoData, UnknownAlgo}
use Rattle.uimg_fit_base.specs.declared.fault.FitFault.TheVariants.{OutOfMemory, NoFile, ReadFailed}
use Rattle.uimg_fit_building.specs.ImageFillings.{fault_in_memory, IsKeptImage, StopsAtImage}

-- If an image has hash nodes, its file can be read: it exists, with the size that the tree keeps.
abbrev pub CanBeRead : (List ℕ → Option (List ℕ)) → NodeOf Content → Type 0
CanBeRead files image = hashes image ≢ [] → IsKeptImage files image

-- Filling passes an image: it has no fault in memory, and its file can be read.
pub record IsPassed (naming : Naming) (files : List ℕ → Option (List ℕ)) (image : NodeOf Content)
    : Type 0 where
  -- no F2 and no F5
  pub sound : fault_in_memory naming image ≡ None
  -- if it has hash nodes, its file exists with the size that the tree keeps
  pub read : CanBeRead files image

-- Filling stops at the file of an image with hash nodes. If only that file can be the reason, it is
-- missing or has another size.
pub record StopsAtFileOf (naming : Naming) (sole : Bool) (files : List ℕ → Option (List ℕ))
    (image : NodeOf Content) : Type 0 where
  pub stops : StopsAtImage naming image
  pub unread : IsTrue sole → IsKeptImage files image → ⊥

-- Filling stops at an image with its fault in memory; or, if it has none, with a fault of its file.
-- Only this file can be the reason of a refused open if the files are complete, and of a failed
-- read if they are steady.
abbrev pub IsImageRefused : Naming → FileMap → Bool → NodeOf Content → FitFault → Type 0
IsImageRefused naming files steady image NoData = fault_in_memory naming image ≡ Some NoData
IsImageRefused naming files steady image UnknownAlgo =
    fault_in_memory naming image ≡ Some UnknownAlgo
IsImageRefused naming files steady image NoFile =
    StopsAtFileOf naming files.complete files.bytes image
IsImageRefused naming files steady image ReadFailed = StopsAtFileOf naming steady files.bytes image
IsImageRefused naming files steady image OutOfMemory = ⊤
IsImageRefused naming files steady image fault = ⊥

-- the result of filling an image
abbrev pub FillsNext : {X : Type 0} → Naming → FileMap → Bool → NodeOf Content → Result X FitFault
    → Type 0
FillsNext naming files steady image (Ok x) = IsPassed naming files.bytes image
FillsNext naming files steady image (Err fault) = IsImageRefused naming files steady image fault

-- Filling passes the images before one, and stops there.
pub record StopsInOrder (naming : Naming) (files : FileMap) (steady : Bool)
    (found : Option (List (NodeOf Content))) (fault : FitFault) : Type 0 where
  pub before : List (NodeOf Content)
  pub image : NodeOf Content
  pub after : List (NodeOf Content)
  pub are_images : found ≡ Some (before ++ image ∷ after)
  -- no image before it is refused
  pub passed : AllByRecursion (IsPassed naming files.bytes) before
  -- this image is
  pub refused : IsImageRefused naming files steady image fault

-- The result of filling a root's images: all are passed, or there are none, or filling stops at the
-- first that it cannot pass; or memory was refused.
abbrev pub FillsInOrder : {X : Type 0} → Naming → FileMap → Bool → Option (List (NodeOf Content))
    → Result X FitFault → Type 0
FillsInOrder naming files steady found (Ok x) =
    IsSomeAnd found (AllByRecursion (IsPassed naming files.bytes))
FillsInOrder naming files steady found (Err NoImages) = found ≡ None
FillsInOrder naming files steady found (Err OutOfMemory) = ⊤
FillsInOrder naming files steady found (Err fault) = StopsInOrder naming files steady found fault
