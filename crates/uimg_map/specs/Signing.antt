-- The configurations with signature nodes, each by its first one.
use Rattle.std.specs.Prelude.{ℕ, ◌==◌, List, [], ◌∷◌, ◌++◌, Option, Some, None}
use Rattle.std.specs.Prelude.{Bool, true, false, if◌then◌else◌}
use Rattle.uimg_blob_reading.specs.Rows.{Row}
use Rattle.uimg_signing.specs.SignatureNodes.{signature_nodes}
use Rattle.uimg_signing.specs.declared.configuration_signatures.SignatureNode.{SignatureNode}

abbrev pub is_same : Option ℕ → ℕ → Bool
is_same None number = false
is_same (Some last) number = last == number

-- a node, unless its configuration is the last one
abbrev pub first_of : Option ℕ → SignatureNode → List SignatureNode
first_of last s = if is_same last s.configuration then [] else s ∷ []

-- the first node of each configuration, after those of the last one; a configuration's are in a row
unfoldable pub first_from : Option ℕ → List SignatureNode → List SignatureNode
first_from last [] = []
first_from last (s ∷ ss) = first_of last s ++ first_from (Some s.configuration) ss

-- those of a tree
abbrev pub signing_nodes : List Row → List SignatureNode
signing_nodes rows = first_from None (signature_nodes rows)
