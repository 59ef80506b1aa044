-- The tokens of a tree that is written from a place on, and the tree that they give.
use Rattle.std.proofs.Common.{ℕ, suc, ◌+◌, List, [], ◌∷◌, length, Ok}
use Rattle.uimg_texts.specs.Numbers.{up4}
use Rattle.uimg_blob_reading.specs.Tokens.{Property, Token, begin_node, end_node, prop}
use Rattle.uimg_blob_reading.specs.Grammar.{Siblings, none, node}
use Rattle.uimg_blob_reading.specs.Plain.{Named, Nodes, no_node, a_node}

-- a property whose token stands at a place
abbrev pub placed_property : ℕ → Named → Property
placed_property at p = record { name = p.name; place = at + 12; value = p.value }

-- where the token after a node's name stands, and that after a property
abbrev pub past_name : ℕ → List ℕ → ℕ
past_name at name = at + 4 + up4 (length name + 1)

abbrev pub past_property : ℕ → Named → ℕ
past_property at p = at + 12 + up4 (length p.value)

unfoldable pub past_properties : ℕ → List Named → ℕ
past_properties at [] = at
past_properties at (p ∷ own) = past_properties (past_property at p) own

-- where the token after nodes stands
unfoldable pub past : ℕ → Nodes → ℕ
past at no_node = at
past at (a_node name own below after) = past (past (past_properties (past_name at name) own) below + 4) after

-- properties, and nodes, with their places
unfoldable pub placed_properties : ℕ → List Named → List Property
placed_properties at [] = []
placed_properties at (p ∷ own) = placed_property at p ∷ placed_properties (past_property at p) own

unfoldable pub placed : ℕ → Nodes → Siblings
placed at no_node = none
placed at (a_node name own below after) =
    node at name (placed_properties (past_name at name) own)
    (placed (past_properties (past_name at name) own) below)
    (placed (past (past_properties (past_name at name) own) below + 4) after)

-- the tokens of properties, and of nodes, before others
unfoldable pub spelled_properties : ℕ → List Named → List Token → List Token
spelled_properties at [] ts = ts
spelled_properties at (p ∷ own) ts = prop at (Ok (placed_property at p)) ∷ spelled_properties (past_property at p) own ts

unfoldable pub spelled : ℕ → Nodes → List Token → List Token
spelled at no_node ts = ts
spelled at (a_node name own below after) ts =
    begin_node at (Ok name) ∷ spelled_properties (past_name at name) own
    (spelled (past_properties (past_name at name) own) below
    (end_node (past (past_properties (past_name at name) own) below)
    ∷ spelled (past (past_properties (past_name at name) own) below + 4) after ts))

-- as many as the tokens, and m
unfoldable pub fuel_properties : List Named → ℕ → ℕ
fuel_properties [] m = m
fuel_properties (p ∷ own) m = suc (fuel_properties own m)

unfoldable pub fuel : Nodes → ℕ → ℕ
fuel no_node m = m
fuel (a_node name own below after) m = suc (fuel_properties own (fuel below (suc (fuel after m))))

-- how many nodes there are
unfoldable pub count : Nodes → ℕ
count no_node = 0
count (a_node name own below after) = suc (count below + count after)
