-- Nodes of an indexed tree, by their numbers.
use Rattle.std.specs.Prelude.{◌≡◌, ◌≤◌, ◌<◌, ℕ, List, [], ◌∷◌, length, IfSome, true, false, ⊤, map}
use Rattle.std.specs.Prelude.{Option, Some, None, Result, Ok, Err, IsTrue}
use Rattle.std.specs.List.{slice_get, filter}
use Rattle.uimg_texts.specs.Numbers.{be32}
use Rattle.uimg_base.specs.{Device.Device, Held.Held}
use Rattle.uimg_blob_reading.specs.declared.{nodes.Blob.Blob, keys.Key.TheVariants.Default}
use Rattle.uimg_blob_reading.specs.{Tokens.Property, Grammar.{Siblings, node}, Blob.tree}
use Rattle.uimg_blob_reading.specs.Roles.{Level, in_images, in_image, in_configurations, is_hash}
use Rattle.uimg_blob_reading.specs.{Roles.{role_at, level_in}, Rows.{Row, first_of, table}}
use Rattle.uimg_blob_reading.specs.{Standing.Stand, Indexed.{IsIndexed, keeps}}
use Rattle.uimg_blob_reading.specs.LookUps.{NodeOf, listed, images, configurations}
use Rattle.uimg_blob_reading.specs.{Spots.{Spot, spot_of, spots}, Faults.refuses_memory}
use Rattle.uimg_fit_base.specs.declared.fault.{Fault.Fault, FitFault.FitFault}
use Rattle.uimg_fit_base.specs.declared.fault.FitFault.TheVariants.{NoImages, NoSuchImage}
use Rattle.uimg_fit_base.specs.declared.fault.Fault.TheVariants as of

-- The entries index some tree.
pub record Indexed (blob : Blob) (es : List (List ℕ)) : Type 0 where
  pub nodes : Siblings
  pub indexed : IsIndexed nodes blob es

-- The number is that of an entry.
pub record IsEntry (blob : Blob) (room : Held) (number : ℕ) : Type 0 where
  pub within : number < length room.entries
  pub indexed : Indexed blob room.entries

-- The number, if there is one, is that of an entry.
pub record IsEntryOrNone (blob : Blob) (room : Held) (first : Option ℕ) : Type 0 where
  pub within : IfSome first (λ i. i < length room.entries)
  pub indexed : Indexed blob room.entries

-- The entries index some tree, whose blob ends in a file of this size.
pub record InFile (size : ℕ) (blob : Blob) (es : List (List ℕ)) : Type 0 where
  pub indexed : Indexed blob es
  pub within : blob.totalsize ≤ size

-- A fact about the size of any file in which the blob ends.
abbrev pub InAnyFile : Blob → Held → (ℕ → Type 0) → Type 0
InAnyFile blob room P = (size : ℕ) → InFile size blob room.entries → P size

-- The number is that of an entry, and the entries index some tree, whose blob ends in the device.
pub record HasNode (d : Device) (blob : Blob) (room : Held) (number : ℕ) : Type 0 where
  pub within : number < length room.entries
  pub file : InFile (length d.bytes) blob room.entries

-- The same for a number that may be missing.
pub record HasNodes (d : Device) (blob : Blob) (room : Held) (first : Option ℕ) : Type 0 where
  pub within : IfSome first (λ i. i < length room.entries)
  pub file : InFile (length d.bytes) blob room.entries

-- The tree of a file is t, the entries index it, and the blob has the total size of its header.
pub record IsRead (file : List ℕ) (blob : Blob) (es : List (List ℕ)) (t : Siblings) : Type 0 where
  pub is : tree file ≡ Ok t
  pub indexed : IsIndexed t blob es
  pub totalsize : blob.totalsize ≡ be32 file 4

-- A device is honest, the tree of its bytes is t, and the room's entries index it.
pub record Opened (d : Device) (blob : Blob) (room : Held) (t : Siblings) : Type 0 where
  pub honest : IsTrue d.honest
  pub read : IsRead d.bytes blob room.entries t

-- A file has a tree, and the entries index it.
pub record HasTree (file : List ℕ) (blob : Blob) (es : List (List ℕ)) : Type 0 where
  pub nodes : Siblings
  pub read : IsRead file blob es nodes

-- what a result says of the tree of a file
abbrev pub GivesTree : List ℕ → Result Blob Fault → List (List ℕ) → Type 0
GivesTree file (Ok blob) es = HasTree file blob es
GivesTree file (Err (of.Blob fault at)) es =
    refuses_memory fault ≡ false → tree file ≡ Err (fault, at)
GivesTree file (Err (of.Fit fault)) es = ⊥
GivesTree file (Err _) es = ⊤

-- The node of a number, at a level of the tree, is this one.
pub record IsNode (t : Siblings) (level : Level) (number : ℕ) (found : NodeOf Spot) : Type 0 where
  pub parent : Option ℕ
  pub at : ℕ
  pub name : List ℕ
  pub own : List Property
  pub below : Siblings
  pub after : Siblings
  pub stands : Stand t level parent number (node at name own below after)
  pub is : found ≡ record { name = name; own = map spot_of own; below = spots below }

-- These nodes follow one another at a level, from the node of a number on; none without a number.
pub record AreFrom (t : Siblings) (level : Level) (first : Option ℕ) (found : List (NodeOf Spot))
    : Type 0 where
  pub parent : Option ℕ
  pub number : ℕ
  pub siblings : Siblings
  pub stands : Stand t level parent number siblings
  pub is_first : first ≡ first_of number siblings
  pub are : found ≡ listed (spots siblings)

-- The tree has images; the first, if there is one, has this number.
pub record HasImages (t : Siblings) (first : Option ℕ) : Type 0 where
  pub found : List (NodeOf Spot)
  pub is : images (spots t) ≡ Some found
  pub from : AreFrom t in_images first found

-- what a result says of the images of a tree
abbrev pub TellsImages : Siblings → Result (Option ℕ) FitFault → Type 0
TellsImages t (Ok first) = HasImages t first
TellsImages t (Err NoImages) = images (spots t) ≡ None
TellsImages t (Err _) = ⊥

-- The image of a tree at a position has this number.
pub record HasImage (t : Siblings) (position : ℕ) (number : ℕ) : Type 0 where
  pub found : List (NodeOf Spot)
  pub image : NodeOf Spot
  pub is : images (spots t) ≡ Some found
  pub has : slice_get found position ≡ Some image
  pub node : IsNode t in_images number image

-- The tree has images, but none at the position.
pub record LacksImage (t : Siblings) (position : ℕ) : Type 0 where
  pub found : List (NodeOf Spot)
  pub is : images (spots t) ≡ Some found
  pub lacks : slice_get found position ≡ None

-- what a result says of the image at a position
abbrev pub TellsImage : Siblings → ℕ → Result ℕ FitFault → Type 0
TellsImage t position (Ok number) = HasImage t position number
TellsImage t position (Err NoImages) = images (spots t) ≡ None
TellsImage t position (Err NoSuchImage) = LacksImage t position
TellsImage t position (Err _) = ⊥

-- These are the hash nodes among an image's children, from one child on.
pub record HashesFrom (t : Siblings) (first : Option ℕ) (hs : List (NodeOf Spot)) : Type 0 where
  pub children : List (NodeOf Spot)
  pub from : AreFrom t in_image first children
  pub are : hs ≡ filter (λ h. is_hash h.name) children

-- The node of a number is this hash node, and these come after it.
pub record HashAt (t : Siblings) (number : ℕ) (hash : NodeOf Spot) (more : List (NodeOf Spot))
    : Type 0 where
  pub node : IsNode t in_image number hash
  pub named : is_hash hash.name ≡ true
  pub row : Row
  pub is : slice_get (table t) number ≡ Some row
  pub rest : HashesFrom t row.next_sibling more

-- The same for a list of hash nodes that begins with it.
pub record FirstHash (t : Siblings) (number : ℕ) (hs : List (NodeOf Spot)) : Type 0 where
  pub hash : NodeOf Spot
  pub more : List (NodeOf Spot)
  pub are : hs ≡ hash ∷ more
  pub at : HashAt t number hash more

-- Hash nodes begin at a number, or there are none.
abbrev pub HashesAt : Siblings → Option ℕ → List (NodeOf Spot) → Type 0
HashesAt t None hs = hs ≡ []
HashesAt t (Some number) hs = FirstHash t number hs

-- The node `configurations` has this number, keeps `default`, and has configurations as children.
pub record HasConfigurations (t : Siblings) (number : ℕ) : Type 0 where
  pub found : NodeOf Spot
  pub is : configurations (spots t) ≡ Some found
  pub level : Level
  pub node : IsNode t level number found
  pub keeps : IsTrue (keeps (role_at level found.name) Default)
  pub children : level_in (role_at level found.name) ≡ in_configurations

-- what a result says of the node `configurations`
abbrev pub TellsConfigurations : Siblings → Option ℕ → Type 0
TellsConfigurations t None = configurations (spots t) ≡ None
TellsConfigurations t (Some number) = HasConfigurations t number

-- Over an honest device whose tree was read: a fact about the node at a number of a level.
abbrev pub OfNode : Device → Blob → Held → Level → ℕ → (NodeOf Spot → Type 0) → Type 0
OfNode d blob room level number P =
    (t : Siblings) → Opened d blob room t → (found : NodeOf Spot) → IsNode t level number found
    → P found

-- The same, at any level.
abbrev pub OfAnyNode : Device → Blob → Held → ℕ → (Level → NodeOf Spot → Type 0) → Type 0
OfAnyNode d blob room number P =
    (t : Siblings) → Opened d blob room t → (level : Level) (found : NodeOf Spot)
    → IsNode t level number found → P level found

-- The same for the nodes from a number of a level on.
abbrev pub OfNodes : Device → Blob → Held → Level → Option ℕ → (List (NodeOf Spot) → Type 0)
    → Type 0
OfNodes d blob room level first P =
    (t : Siblings) → Opened d blob room t → (found : List (NodeOf Spot))
    → AreFrom t level first found → P found

-- The same for the hash node at a number.
abbrev pub OfHash : Device → Blob → Held → ℕ → (NodeOf Spot → Type 0) → Type 0
OfHash d blob room number P =
    (t : Siblings) → Opened d blob room t → (found : NodeOf Spot) (more : List (NodeOf Spot))
    → HashAt t number found more → P found

-- The same for the hash nodes from a number on.
abbrev pub OfHashes : Device → Blob → Held → Option ℕ → (List (NodeOf Spot) → Type 0) → Type 0
OfHashes d blob room first P =
    (t : Siblings) → Opened d blob room t → (hs : List (NodeOf Spot)) → HashesAt t first hs → P hs

-- In any file whose tree was read: a fact about the node at a number, at any level.
abbrev pub AtNode : Blob → Held → ℕ → (List ℕ → Level → NodeOf Spot → Type 0) → Type 0
AtNode blob room number P =
    (file : List ℕ) (t : Siblings) → IsRead file blob room.entries t
    → (level : Level) (found : NodeOf Spot) → IsNode t level number found → P file level found

-- The same, at one level.
abbrev pub AtLevel : Blob → Held → Level → ℕ → (List ℕ → NodeOf Spot → Type 0) → Type 0
AtLevel blob room level number P =
    (file : List ℕ) (t : Siblings) → IsRead file blob room.entries t → (found : NodeOf Spot)
    → IsNode t level number found → P file found

-- The same in any tree that the entries index.
abbrev pub InTree : Blob → Held → ℕ → (Siblings → Level → NodeOf Spot → Type 0) → Type 0
InTree blob room number P =
    (t : Siblings) → IsIndexed t blob room.entries → (level : Level) (found : NodeOf Spot)
    → IsNode t level number found → P t level found

-- In any file whose tree was read: a fact about the nodes from a number of a level on.
abbrev pub FromNode : Blob → Held → Level → Option ℕ → (List ℕ → List (NodeOf Spot) → Type 0)
    → Type 0
FromNode blob room level first P =
    (file : List ℕ) (t : Siblings) → IsRead file blob room.entries t → (found : List (NodeOf Spot))
    → AreFrom t level first found → P file found

-- The same for the hash nodes from a number on.
abbrev pub FromHash : Blob → Held → Option ℕ → (List ℕ → List (NodeOf Spot) → Type 0) → Type 0
FromHash blob room first P =
    (file : List ℕ) (t : Siblings) → IsRead file blob room.entries t → (hs : List (NodeOf Spot))
    → HashesAt t first hs → P file hs

-- The same for nodes in any tree that the entries index.
abbrev pub InTreeFrom : Blob → Held → Level → Option ℕ → (List (NodeOf Spot) → Type 0) → Type 0
InTreeFrom blob room level first P =
    (t : Siblings) → IsIndexed t blob room.entries → (found : List (NodeOf Spot))
    → AreFrom t level first found → P found
