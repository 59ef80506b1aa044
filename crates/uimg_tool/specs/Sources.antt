-- The text of a source, and the tree that it spells.
use Rattle.std.specs.{Path.path_buf_bytes, Prelude.{◌≡◌, ℕ, List, [], Option, Some}}
use Rattle.uimg_blob_reading.specs.Plain.{Nodes}
use Rattle.uimg_blob_writing.specs.{Content.{AreKept, in_full}, Trees.node_of}
use Rattle.uimg_dts.specs.declared.compiler.Compiled.{Compiled}
use Rattle.uimg_its.specs.{Grammar.Spells, Words.words}
use Rattle.uimg_tool.specs.declared.sources.SourceText.{SourceText}

-- the text of the file at a path
abbrev pub IsText : (List ℕ → Option (List ℕ)) → List ℕ → SourceText → Type 0
IsText files path source =
    (path_buf_bytes source.path ≡ path) × (files path ≡ Some source.text.items)

-- What was compiled is a tree that a text spells. It reserves no memory.
pub record IsSpelled {A : Type 0} (files : List ℕ → Option (List ℕ)) (compiled : Compiled A) (t : Nodes) : Type 0 where
  pub tree : in_full files (node_of compiled.tree.root) ≡ t
  pub kept : AreKept files (node_of compiled.tree.root)
  pub bare : compiled.reservations.items ≡ []

-- the same of the tree that the text spells in the language of the profile, if it spells one
abbrev pub Spelled : {A : Type 0} → (List ℕ → Option (List ℕ)) → List ℕ → Compiled A → Type 0
Spelled files text compiled = (t : Nodes) → Spells (words text) files t → IsSpelled files compiled t
