-- Nodes as parts, and files as bytes.
use Rattle.std.specs.Prelude.{ℕ, Bool, true, false, List, [], ◌∷◌, map, Option, Some, None}
use Rattle.uimg_its.specs.Words.{Word}
use Rattle.uimg_blob_reading.specs.Plain.{Named, NamedOf, Nodes, no_node, a_node, with_value}
use Rattle.uimg_blob_writing.specs.declared.tree.Node.{Node}
use Rattle.uimg_blob_writing.specs.Content.{Content, content_bytes, in_full}

-- the bytes at each name
abbrev pub FileBytes : Type 0
FileBytes = List ℕ → Option (List ℕ)

-- a node: its name, its properties, and its children
pub record NodeParts : Type 0 where
  pub name : List ℕ
  pub props : List Named
  pub children : Nodes

-- nodes in order
abbrev pub chain : List NodeParts → Nodes
chain [] = no_node
chain (t ∷ ts) = a_node t.name t.props t.children (chain ts)

-- one node
abbrev pub one_node : NodeParts → Nodes
one_node t = a_node t.name t.props t.children no_node

-- properties with each file replaced by its bytes
abbrev pub props_in_full : FileBytes → List (NamedOf Content) → List Named
props_in_full files ps = map (with_value (content_bytes files)) ps

-- the same for a node of the code
abbrev pub parts_of : {A : Type 0} → FileBytes → Node A → NodeParts
parts_of files n =
    record {
      name = n.name;
      props = props_in_full files n.props;
      children = in_full files
          n.children;
    }

abbrev pub all_parts_of : {A : Type 0} → FileBytes → List (Node A) → List NodeParts
all_parts_of files ns = map (parts_of files) ns

-- a step of reading children: a node, or the end of a body
abbrev pub child_found : {A : Type 0} → FileBytes → Option (Node A) → List Word
    → Bool × List NodeParts × List Word
child_found files None after = (true, [], after)
child_found files (Some n) after = (false, parts_of files n ∷ [], after)
