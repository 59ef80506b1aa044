-- Trees of nodes without offsets, as written to a blob and as read back.
use Rattle.std.specs.Prelude.{◌≡◌, ℕ, ◌≤◌, List, length, map, Result, Ok, Err, None, ⊤}
use Rattle.std.specs.List.{AllByRecursion}
use Rattle.uimg_blob_reading.specs.{Reading.Fault, Tokens.Property, Grammar.{Siblings, none, node}}
use Rattle.uimg_texts.specs.Nul.{before_nul}

-- A property: its name and its value.
pub record NamedOf (V : Type 0) : Type 0 where
  pub name : List ℕ
  pub value : V

-- Siblings: none, or a node with its name, properties and children, followed by the nodes after it.
pub data NodesOf (V : Type 0) : Type 0 where
  no_node : NodesOf V
  a_node : List ℕ → List (NamedOf V) → NodesOf V → NodesOf V → NodesOf V

-- the same with bytes as values
abbrev pub Named : Type 0
Named = NamedOf (List ℕ)

abbrev pub Nodes : Type 0
Nodes = NodesOf (List ℕ)

-- a property without its offset
abbrev pub unplaced_property : Property → Named
unplaced_property p = record { name = p.name; value = p.value }

-- nodes without their offsets
abbrev pub unplaced : Siblings → Nodes
unplaced none = no_node
unplaced (node at name own below after) =
    a_node name (map unplaced_property own) (unplaced below) (unplaced after)

-- the tree without its offsets, or the fault
abbrev pub unplaced_in : Result Siblings Fault → Result Nodes Fault
unplaced_in (Ok t) = Ok (unplaced t)
unplaced_in (Err e) = Err e

-- the same nodes, with a function applied to each value
abbrev pub with_value : {V W : Type 0} → (V → W) → NamedOf V → NamedOf W
with_value f p = record { name = p.name; value = f p.value }

unfoldable pub with_values : {V W : Type 0} → (V → W) → NodesOf V → NodesOf W
with_values f no_node = no_node
with_values f (a_node name own below after) =
    a_node name (map (with_value f) own) (with_values f below) (with_values f after)

-- P holds for each value
abbrev pub AllValues : {V : Type 0} → (V → Type 0) → NodesOf V → Type 0
AllValues P no_node = ⊤
AllValues P (a_node name own below after) =
    AllByRecursion (λ p. P p.value) own × AllValues P below × AllValues P after

-- A name has at most 255 bytes and no NUL.
pub record IsName (name : List ℕ) : Type 0 where
  pub short : length name ≤ 255
  pub no_nul : before_nul name ≡ None

-- The names of all nodes and properties are valid.
abbrev pub AreNamed : {V : Type 0} → NodesOf V → Type 0
AreNamed no_node = ⊤
AreNamed (a_node name own below after) =
    IsName name × AllByRecursion (λ p. IsName p.name) own × AreNamed below × AreNamed after
