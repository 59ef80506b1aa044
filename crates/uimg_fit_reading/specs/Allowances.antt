-- The most bytes requested for the names and texts of nodes, once their blob is indexed.
use Rattle.std.specs.{Prelude.{ℕ, ◌+◌, ◌*◌, List, Bool, length, if◌then◌else◌}, List.sum_by}
use Rattle.uimg_blob_reading.specs.{Keys.{is_text, is_any_text}, Plain.{NamedOf, NodesOf, no_node, a_node}}
use Rattle.uimg_blob_reading.specs.{LookUps.NodeOf, Spots.Spot}
use Rattle.uimg_texts.specs.declared.naming.Naming.{Naming, TheVariants.{Profile, All}}

-- whether a property's value is a text in a listing with a set of names
abbrev pub is_text_in : Naming → List ℕ → Bool
is_text_in Profile = is_text
is_text_in All = is_any_text

-- the length of a value that is a text, else 0
abbrev pub text_size : Naming → NamedOf Spot → ℕ
text_size names p = if is_text_in names p.name then length p.value.bytes else 0

-- the length of all texts of a node
abbrev pub text_sizes : Naming → List (NamedOf Spot) → ℕ
text_sizes names own = sum_by (text_size names) own

-- 760 bytes for each node, and 4 for each byte of its texts
unfoldable pub allowance : Naming → NodesOf Spot → ℕ
allowance names no_node = 0
allowance names (a_node name own below after) =
    760 + 4 * text_sizes names own + allowance names below + allowance names after

-- the same for one node and those below it
abbrev pub node_allowance : Naming → NodeOf Spot → ℕ
node_allowance names n = 760 + 4 * text_sizes names n.own + allowance names n.below
