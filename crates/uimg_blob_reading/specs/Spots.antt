-- The nodes of a file, each value with its offset.
use Rattle.std.specs.Prelude.{ℕ, List, map}
use Rattle.uimg_blob_reading.specs.{Tokens.Property, Grammar.{Siblings, none, node}}
use Rattle.uimg_blob_reading.specs.Plain.{NamedOf, NodesOf, no_node, a_node}

-- A value and its offset in the file.
pub record Spot : Type 0 where
  pub place : ℕ
  pub bytes : List ℕ

abbrev pub spot_of : Property → NamedOf Spot
spot_of p = record { name = p.name; value = record { place = p.place; bytes = p.value } }

-- the nodes that were read, without their own offsets
unfoldable pub spots : Siblings → NodesOf Spot
spots none = no_node
spots (node at name own below after) = a_node name (map spot_of own) (spots below) (spots after)
