-- Names and values of a tree, at their offsets in the file.
use Rattle.std.specs.{Prelude.{◌≡◌, ℕ, ◌≤◌, ◌+◌, List, length, ⊤}, List.AllByRecursion}
use Rattle.uimg_texts.specs.Slices.{slice}
use Rattle.uimg_blob_reading.specs.{Tokens.Property, Grammar.{Siblings, none, node}}

-- A node's name follows the token that begins the node.
pub record NameLies (file : List ℕ) (at : ℕ) (name : List ℕ) : Type 0 where
  pub short : length name ≤ 255
  pub within : at + 4 + length name ≤ length file
  pub here : slice file (at + 4) (length name) ≡ name

-- A property's value is at its offset.
pub record ValueLies (file : List ℕ) (p : Property) : Type 0 where
  pub within : p.place + length p.value ≤ length file
  pub here : slice file p.place (length p.value) ≡ p.value

-- The names and values of nodes are at their offsets.
abbrev pub Lie : List ℕ → Siblings → Type 0
Lie file none = ⊤
Lie file (node at name own below after) =
    NameLies file at name × AllByRecursion (ValueLies file) own × Lie file below × Lie file after
