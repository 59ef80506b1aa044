-- The results of filling, over files of the kept sizes.
use Rattle.std.specs.Prelude.{◌≡◌, ◌≢◌, ℕ, List, [], ◌∷◌, ◌++◌, map, Bool, true, false, IsTrue}
use Rattle.std.specs.Prelude.{Option, Some, None, Result, Ok, Err, codes, ⊤}
use Rattle.uimg_texts.specs.declared.naming.Naming.{Naming, TheVariants.Profile}
use Rattle.uimg_base.specs.{Lent.Lent, Named.FileMap}
use Rattle.uimg_blob_writing.specs.UsingFiles.{UsesFiles}
use Rattle.uimg_blob_writing.specs.Content.{Content, Unread, file, content_bytes, in_full, AreKept}
use Rattle.uimg_blob_reading.specs.Plain.{with_value, with_values}
use Rattle.uimg_blob_reading.specs.LookUps.{NodeOf, first, images, hashes}
use Rattle.uimg_fit_base.specs.declared.fault.FitFault.{FitFault}
use Rattle.uimg_fit_base.specs.declared.fault.FitFault.TheVariants.{OutOfMemory, NoFile, ReadFailed}
use Rattle.uimg_fit_building.specs.{Filling.IsFilledBy, UnreadTrees.filled_unread}
use Rattle.uimg_fit_building.specs.Refusing.{first_fault, fill_by}

-- the result is a refused open
abbrev pub opens_no_file : {X : Type 0} → Result X FitFault → Bool
opens_no_file (Err NoFile) = true
opens_no_file _ = false

-- the result is a failed read of a file, or another size of it
abbrev pub fails_to_read : {X : Type 0} → Result X FitFault → Bool
fails_to_read (Err ReadFailed) = true
fails_to_read _ = false

-- What a call does that opens files: they are unchanged, and each refused open was counted. If the
-- needed files exist with the kept sizes, complete files refuse none, and what never fails is read.
pub record OpensKeptBetween {X : Type 0} (never_fails : Bool) (AreThere : Type 0)
    (result : Result X FitFault) (old new : FileMap) : Type 0 where
  -- F9 is returned exactly if the refusals of the files rose
  pub files : UsesFiles (opens_no_file result) old new
  pub found : IsTrue old.complete → AreThere → opens_no_file result ≡ false
  pub steady : IsTrue never_fails → IsTrue old.honest → AreThere → fails_to_read result ≡ false

abbrev pub OpensKept : {F X : Type 0} → Bool → (F → FileMap) → ((List ℕ → Option (List ℕ)) → Type 0)
    → Result X FitFault → Lent F → Type 0
OpensKept never_fails map AreThere result files =
    OpensKeptBetween never_fails (AreThere (map files.entry.now).bytes) result (map files.entry.now)
    (map files.exit.now)

-- a node, with the bytes of each file as its value
abbrev pub node_in_full : (List ℕ → Option (List ℕ)) → NodeOf Content → NodeOf (List ℕ)
node_in_full files image = record {
  name = image.name;
  own = map (with_value (content_bytes files)) image.own;
  below = with_values (content_bytes files) image.below;
}

-- A tree is filled, giving another: no file is read into it or replaced.
pub record FillsBy (naming : Naming) (files : List ℕ → Option (List ℕ)) (time : ℕ) (t u : Unread)
    : Type 0 where
  -- no file is read into the tree
  pub source : u ≡ filled_unread naming files time t
  -- filling before the files are read is filling after
  pub accepted : fill_by naming time (in_full files t) ≡ Ok (in_full files u)
  -- each of its hash nodes has the digest of its image's payload
  pub is_filled : IsFilledBy naming (in_full files u)
  -- each file has the size that the tree keeps
  pub kept : AreKept files u

-- Filling stopped at the file of an image with hash nodes.
pub record StopsAtFile (naming : Naming) (files : List ℕ → Option (List ℕ)) (t : Unread)
    : Type 0 where
  pub before : List (NodeOf Content)
  pub image : NodeOf Content
  pub after : List (NodeOf Content)
  pub are_images : images t ≡ Some (before ++ image ∷ after)
  -- neither the image nor one before it has a fault of its own
  pub sound : first_fault naming (map (node_in_full files) (before ++ image ∷ [])) ≡ None
  pub name : List ℕ
  pub size : ℕ
  pub is_file : first image.own (codes "data") ≡ Some (file name size)
  pub is_hashed : hashes image ≢ []

-- The result is the filled tree or the first fault; or memory, the open of a file or a read of it
-- failed.
abbrev pub FillsAnswerBy : {X : Type 0} → Naming → (X → Unread) → (List ℕ → Option (List ℕ)) → ℕ
    → Unread → Result X FitFault → Type 0
FillsAnswerBy naming view files time t (Ok x) = FillsBy naming files time t (view x)
FillsAnswerBy naming view files time t (Err OutOfMemory) = ⊤
FillsAnswerBy naming view files time t (Err NoFile) = StopsAtFile naming files t
FillsAnswerBy naming view files time t (Err ReadFailed) = StopsAtFile naming files t
FillsAnswerBy naming view files time t (Err fault) =
    fill_by naming time (in_full files t) ≡ Err fault

-- the same by the algorithms of the profile
abbrev pub Fills : (List ℕ → Option (List ℕ)) → ℕ → Unread → Unread → Type 0
Fills files time t u = FillsBy Profile files time t u

abbrev pub FillsAnswer : {X : Type 0} → (X → Unread) → (List ℕ → Option (List ℕ)) → ℕ → Unread
    → Result X FitFault → Type 0
FillsAnswer view files time t r = FillsAnswerBy Profile view files time t r
