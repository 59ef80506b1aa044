-- What filling does to an image, in terms of what is in memory and the bytes of its payload.
use Rattle.std.specs.Prelude.{◌≡◌, ◌≢◌, ℕ, List, [], ◌∷◌, ◌++◌, map, Bool, true, false, is_some}
use Rattle.std.specs.{Prelude.{find, Option, Some, None, Result, Ok, Err, codes, ⊤}, Str.bytes_eq}
use Rattle.std.specs.{List.{filter, list_all}, Option.{option_map, option_map_or, IfSome}}
use Rattle.uimg_texts.specs.declared.naming.Naming.{Naming}
use Rattle.uimg_blob_reading.specs.{LookUps.{NodeOf, listed, first, hashes}, Roles.is_hash}
use Rattle.uimg_blob_writing.specs.declared.tree.Node.{Node}
use Rattle.uimg_blob_writing.specs.Content.{Content, Unread, bytes, file, content_bytes, IsKept}
use Rattle.uimg_fit_base.specs.declared.fault.FitFault.{FitFault}
use Rattle.uimg_fit_base.specs.declared.fault.FitFault.TheVariants.{NoImages, UnknownAlgo}
use Rattle.uimg_fit_base.specs.declared.fault.FitFault.TheVariants.{OutOfMemory, NoFile, ReadFailed}
use Rattle.uimg_fit_building.specs.Filling.{without_external, each, in_first, hash_algo, hashed_by}
use Rattle.uimg_fit_building.specs.{Refusing.{image_fault, first_fault}, FillAnswers.node_in_full}
use Rattle.uimg_fit_building.specs.PayloadSums.{no_files, in_memory}

-- a child of an image with the digest of a payload, if it is a hash node
abbrev pub hashed_in : Naming → List ℕ → NodeOf Content → NodeOf Content
hashed_in naming message h = hashed_by naming in_memory bytes message h

-- an image with the digests of its payload, and no offset outside the blob
abbrev pub filled_over : Naming → (List ℕ → Option (List ℕ)) → NodeOf Content → NodeOf Content
filled_over naming files image = record image {
  own = without_external image.own;
  below =
      option_map_or (λ c. each (hashed_in naming (content_bytes files c)) image.below)
      (first image.own (codes "data")) image.below;
}

-- why an image is not filled, whatever its file has
abbrev pub fault_in_memory : Naming → NodeOf Content → Option FitFault
fault_in_memory naming image = image_fault naming (node_in_full no_files image)

-- the same for the first image with a fault
abbrev pub first_in_memory : Naming → List (NodeOf Content) → Option FitFault
first_in_memory naming images = first_fault naming (map (node_in_full no_files) images)

-- A value is a file, which was not opened or not read.
abbrev pub IsFileFault : Content → FitFault → Type 0
IsFileFault (file name size) NoFile = ⊤
IsFileFault (file name size) ReadFailed = ⊤
IsFileFault c fault = ⊥

-- whether all hash nodes among nodes have known algorithms
abbrev pub are_known : Naming → Unread → Bool
are_known naming t =
    list_all (λ h. is_some (hash_algo naming in_memory h.own))
    (filter (λ h. is_hash h.name) (listed t))

-- Filling stops at a payload in a file, for nodes with hash nodes among them.
pub record StopsAtPayload (naming : Naming) (c : Content) (t : Unread) : Type 0 where
  pub known : are_known naming t ≡ true
  pub name : List ℕ
  pub size : ℕ
  pub is_file : c ≡ file name size
  pub is_hashed : filter (λ h. is_hash h.name) (listed t) ≢ []

-- the result of setting the digests of a payload in nodes
abbrev pub FillsHashes : {X : Type 0} → Naming → (X → Unread) → (List ℕ → Option (List ℕ)) → Content
    → Unread → Result X FitFault → Type 0
FillsHashes naming view files c t (Ok x) =
    (are_known naming t ≡ true) × (view x ≡ each (hashed_in naming (content_bytes files c)) t)
FillsHashes naming view files c t (Err OutOfMemory) = ⊤
FillsHashes naming view files c t (Err UnknownAlgo) = are_known naming t ≡ false
FillsHashes naming view files c t (Err NoFile) = StopsAtPayload naming c t
FillsHashes naming view files c t (Err ReadFailed) = StopsAtPayload naming c t
FillsHashes naming view files c t (Err fault) = ⊥

-- Filling stops at the file of an image with hash nodes.
pub record StopsAtImage (naming : Naming) (image : NodeOf Content) : Type 0 where
  pub sound : fault_in_memory naming image ≡ None
  pub name : List ℕ
  pub size : ℕ
  pub is_file : first image.own (codes "data") ≡ Some (file name size)
  pub is_hashed : hashes image ≢ []

-- the result of filling an image
abbrev pub FillsImage : {X : Type 0} → Naming → (List ℕ → Option (List ℕ)) → NodeOf Content
    → NodeOf Content → Result X FitFault → Type 0
FillsImage naming files old new (Ok x) =
    (fault_in_memory naming old ≡ None) × (new ≡ filled_over naming files old)
FillsImage naming files old new (Err OutOfMemory) = ⊤
FillsImage naming files old new (Err NoFile) = StopsAtImage naming old
FillsImage naming files old new (Err ReadFailed) = StopsAtImage naming old
FillsImage naming files old new (Err fault) = fault_in_memory naming old ≡ Some fault

-- Filling stops at the file of one of some images.
pub record StopsAmong (naming : Naming) (images : List (NodeOf Content)) : Type 0 where
  pub before : List (NodeOf Content)
  pub image : NodeOf Content
  pub after : List (NodeOf Content)
  pub are : images ≡ before ++ image ∷ after
  pub sound : first_in_memory naming before ≡ None
  pub stops : StopsAtImage naming image

-- the result of filling images
abbrev pub FillsImages : {X : Type 0} → Naming → (List ℕ → Option (List ℕ)) → List (NodeOf Content)
    → List (NodeOf Content) → Result X FitFault → Type 0
FillsImages naming files old new (Ok x) =
    (first_in_memory naming old ≡ None) × (new ≡ map (filled_over naming files) old)
FillsImages naming files old new (Err OutOfMemory) = ⊤
FillsImages naming files old new (Err NoFile) = StopsAmong naming old
FillsImages naming files old new (Err ReadFailed) = StopsAmong naming old
FillsImages naming files old new (Err fault) = first_in_memory naming old ≡ Some fault

-- The file of an image's payload exists with the kept size.
abbrev pub IsKeptImage : (List ℕ → Option (List ℕ)) → NodeOf Content → Type 0
IsKeptImage files image = IfSome (first image.own (codes "data")) (IsKept files)

-- the result of filling the images that are the children of a node
abbrev pub FillsParent : {A X : Type 0} → Naming → (List ℕ → Option (List ℕ)) → Node A → Node A
    → Result X FitFault → Type 0
FillsParent naming files old new (Ok x) =
    (first_in_memory naming (listed old.children) ≡ None)
    × (new ≡ record old { children = each (filled_over naming files) old.children })
FillsParent naming files old new (Err OutOfMemory) = ⊤
FillsParent naming files old new (Err NoFile) = StopsAmong naming (listed old.children)
FillsParent naming files old new (Err ReadFailed) = StopsAmong naming (listed old.children)
FillsParent naming files old new (Err fault) =
    first_in_memory naming (listed old.children) ≡ Some fault

-- the images among the children of the root
abbrev pub images_among : Unread → Option (List (NodeOf Content))
images_among t =
    option_map (λ c. listed c.below) (find (λ c. bytes_eq (codes "images") c.name) (listed t))

-- why they are not filled, whatever their files have
abbrev pub fault_among : Naming → Option (List (NodeOf Content)) → Option FitFault
fault_among naming None = Some NoImages
fault_among naming (Some images) = first_in_memory naming images

-- Filling stops at the file of one of the root's images.
pub record StopsBelow (naming : Naming) (t : Unread) : Type 0 where
  pub images : List (NodeOf Content)
  pub are_images : images_among t ≡ Some images
  pub stops : StopsAmong naming images

-- the result of filling the images below a root with these children
abbrev pub FillsBelow : {X : Type 0} → Naming → (List ℕ → Option (List ℕ)) → Unread → Unread
    → Result X FitFault → Type 0
FillsBelow naming files old new (Ok x) =
    (fault_among naming (images_among old) ≡ None)
    × (new ≡ in_first (codes "images") (each (filled_over naming files)) old)
FillsBelow naming files old new (Err OutOfMemory) = ⊤
FillsBelow naming files old new (Err NoFile) = StopsBelow naming old
FillsBelow naming files old new (Err ReadFailed) = StopsBelow naming old
FillsBelow naming files old new (Err fault) = fault_among naming (images_among old) ≡ Some fault
