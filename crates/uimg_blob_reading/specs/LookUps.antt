-- Queries on a tree of nodes (Flattened Image Tree format, "Root node", "'/images' node",
-- "'/configurations' node", "Hash nodes").
use Rattle.std.specs.{Prelude.{ℕ, List, [], ◌∷◌, Option, None, codes, find}, List.filter}
use Rattle.std.specs.{Option.option_map, Str.bytes_eq}
use Rattle.uimg_blob_reading.specs.{Roles.is_hash, Plain.{NamedOf, NodesOf, no_node, a_node}}

-- A node: its name, properties and children.
pub record NodeOf (V : Type 0) : Type 0 where
  pub name : List ℕ
  pub own : List (NamedOf V)
  pub below : NodesOf V

-- siblings as a list
unfoldable pub listed : {V : Type 0} → NodesOf V → List (NodeOf V)
listed no_node = []
listed (a_node name own below after) =
    record { name = name; own = own; below = below } ∷ listed after

-- the value of the first property with this name
abbrev pub first : {V : Type 0} → List (NamedOf V) → List ℕ → Option V
first own key = option_map (λ p. p.value) (find (λ p. bytes_eq key p.name) own)

-- the root's first child with this name
abbrev pub child : {V : Type 0} → NodesOf V → List ℕ → Option (NodeOf V)
child no_node key = None
child (a_node name own below after) key = find (λ c. bytes_eq key c.name) (listed below)

-- the children of the root's first child `images`
abbrev pub images : {V : Type 0} → NodesOf V → Option (List (NodeOf V))
images t = option_map (λ c. listed c.below) (child t (codes "images"))

-- the root's first child `configurations`
abbrev pub configurations : {V : Type 0} → NodesOf V → Option (NodeOf V)
configurations t = child t (codes "configurations")

-- the hash nodes of an image: its children whose name begins with `hash`
abbrev pub hashes : {V : Type 0} → NodeOf V → List (NodeOf V)
hashes image = filter (λ h. is_hash h.name) (listed image.below)
