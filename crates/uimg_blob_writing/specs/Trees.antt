-- What contracts see of nodes.
use Rattle.std.specs.Prelude.{List, [], ◌∷◌}
use Rattle.uimg_blob_writing.specs.{declared.tree.Node.Node, Content.Unread}
use Rattle.uimg_blob_reading.specs.Plain.{no_node, a_node}

-- nodes as siblings
abbrev pub siblings : {A : Type 0} → List (Node A) → Unread
siblings [] = no_node
siblings (n ∷ ns) = a_node n.name n.props n.children (siblings ns)

-- one node
abbrev pub node_of : {A : Type 0} → Node A → Unread
node_of n = a_node n.name n.props n.children no_node
