-- Trees whose files are not read yet.
use Rattle.std.specs.Prelude.{◌≡◌, ℕ, suc, ◌+◌, List, [], ◌∷◌, ◌++◌, length, Option, Some, unwrap_or, ⊤, codes}
use Rattle.std.specs.List.{AllByRecursion, flat_map}
use Rattle.uimg_blob_reading.specs.Plain.{NodesOf, Nodes, no_node, a_node, with_values, AllValues}

-- The value of a property: bytes, or the bytes of a file with this name and size.
pub data Content : Type 0 where
  bytes : List ℕ → Content
  file : List ℕ → ℕ → Content

-- nodes whose files are not read
abbrev pub Unread : Type 0
Unread = NodesOf Content

-- the bytes of a value, for these bytes of files
abbrev pub content_bytes : (List ℕ → Option (List ℕ)) → Content → List ℕ
content_bytes files (bytes b) = b
content_bytes files (file name size) = unwrap_or (files name) []

-- the nodes with each file replaced by its bytes
abbrev pub in_full : (List ℕ → Option (List ℕ)) → Unread → Nodes
in_full files t = with_values (content_bytes files) t

-- the size of a value in bytes
abbrev pub size_of : Content → ℕ
size_of (bytes b) = length b
size_of (file name size) = size

-- If the value is a file, it exists and has the stored size.
abbrev pub IsKept : (List ℕ → Option (List ℕ)) → Content → Type 0
IsKept files (bytes b) = ⊤
IsKept files (file name size) = (b : List ℕ) × (files name ≡ Some b) × (length b ≡ size)

-- All files of the nodes exist and have their stored sizes.
abbrev pub AreKept : (List ℕ → Option (List ℕ)) → Unread → Type 0
AreKept files t = AllValues (IsKept files) t

-- the name of a value that is a file
abbrev pub file_of : Content → List (List ℕ)
file_of (bytes b) = []
file_of (file name size) = name ∷ []

-- the names of the files of nodes, in the order of writing: those of a node's properties, those of
-- its children, and those of the nodes after it
abbrev pub files_in : Unread → List (List ℕ)
files_in no_node = []
files_in (a_node name own below after) =
    flat_map (λ p. file_of p.value) own ++ (files_in below ++ files_in after)

-- The value is bytes, not a file.
abbrev pub IsBytes : Content → Type 0
IsBytes (bytes b) = ⊤
IsBytes (file name size) = ⊥

-- A file is the value of `data` only.
abbrev pub StandsAtData : List ℕ → Content → Type 0
StandsAtData n (bytes b) = ⊤
StandsAtData n (file name size) = n ≡ codes "data"

-- In all nodes, only properties named `data` are files.
abbrev pub FilesAtData : Unread → Type 0
FilesAtData no_node = ⊤
FilesAtData (a_node name own below after) =
    AllByRecursion (λ p. StandsAtData p.name p.value) own × FilesAtData below × FilesAtData after

-- the measure of nodes: two for each node, descendants included
abbrev pub count : {V : Type 0} → NodesOf V → ℕ
count no_node = 0
count (a_node name own below after) = suc (suc (count below + count after))
