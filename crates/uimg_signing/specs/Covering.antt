-- What a signature signs: the bytes of the tokens that some listed nodes cover (U-Boot,
-- doc/uImage.FIT/signature.rst, "Signed Configurations"; Devicetree Specification, section 5.4).
use Rattle.std.specs.Prelude.{ℕ, ◌+◌, List, [], ◌∷◌, length, Option, Some, Ok, Err}
use Rattle.std.specs.Prelude.{Bool, true, false, ◌||◌, ◌&&◌, not, if◌then◌else◌, ◌==◌, flat_map, nat_lt}
use Rattle.std.specs.List.{list_any}
use Rattle.uimg_texts.specs.{Slices.slice, Numbers.up4}
use Rattle.uimg_blob_reading.specs.declared.keys.Key.{Key}
use Rattle.uimg_blob_reading.specs.declared.keys.Key.TheVariants as key
use Rattle.uimg_blob_reading.specs.{Keys.key_named, Counts.is_begin}
use Rattle.uimg_blob_reading.specs.Tokens.{Token, begin_node, end_node, prop, nop, last}
use Rattle.uimg_blob_reading.specs.Tokens.{stray, offset}

-- the nodes that a token is in, innermost first, each by its offset; its first and last token are
-- in a node
abbrev pub around : List ℕ → Token → List ℕ
around nodes (begin_node at name) = at ∷ nodes
around nodes (end_node at) = nodes
around nodes (prop at p) = nodes
around nodes (nop at) = nodes
around nodes (last at) = nodes
around nodes (stray at fault) = nodes

-- all of them but the innermost
abbrev pub outside : List ℕ → List ℕ
outside [] = []
outside (a ∷ nodes) = nodes

-- the nodes that are nodes after a token
abbrev pub after : List ℕ → Token → List ℕ
after nodes (begin_node at name) = at ∷ nodes
after nodes (end_node at) = outside nodes
after nodes (prop at p) = nodes
after nodes (nop at) = nodes
after nodes (last at) = nodes
after nodes (stray at fault) = nodes

-- A token, and the nodes that it is in.
pub record Placed : Type 0 where
  pub nodes : List ℕ
  pub token : Token

-- a token, with these nodes open before it
abbrev pub placed_in : List ℕ → Token → Placed
placed_in nodes t = record { nodes = around nodes t; token = t }

-- the tokens of a structure block, each with the nodes that it is in
unfoldable pub in_nodes : List ℕ → List Token → List Placed
in_nodes nodes [] = []
in_nodes nodes (t ∷ ts) = placed_in nodes t ∷ in_nodes (after nodes t) ts

-- the token begins a node that is in 32 others (U-Boot's fdt_find_regions refuses that depth)
abbrev pub begins_deep : Placed → Bool
begins_deep p = is_begin p.token && nat_lt 32 (length p.nodes)

-- the innermost of these nodes is listed
abbrev pub innermost : (ℕ → Bool) → List ℕ → Bool
innermost listed [] = false
innermost listed (a ∷ nodes) = listed a

-- the keys of the properties that are never signed: those of the place of data
abbrev pub is_exempt_key : Option Key → Bool
is_exempt_key (Some key.Data) = true
is_exempt_key (Some key.DataSize) = true
is_exempt_key (Some key.DataPosition) = true
is_exempt_key (Some key.DataOffset) = true
is_exempt_key _ = false

-- the name is one of these
abbrev pub is_exempt : List ℕ → Bool
is_exempt name = is_exempt_key (key_named name)

-- A node's first and last token are signed if it or its parent is listed; a property, if its node
-- is and it does not place data; FDT_NOP, if its node is; FDT_END always.
abbrev pub covers : (ℕ → Bool) → List ℕ → Token → Bool
covers listed nodes (begin_node at name) = innermost listed nodes || innermost listed (outside nodes)
covers listed nodes (end_node at) = innermost listed nodes || innermost listed (outside nodes)
covers listed nodes (prop at (Ok p)) = innermost listed nodes && not (is_exempt p.name)
covers listed nodes (prop at (Err fault)) = false
covers listed nodes (nop at) = innermost listed nodes
covers listed nodes (last at) = true
covers listed nodes (stray at fault) = false

-- how many bytes a token has, with its padding
abbrev pub size_of : Token → ℕ
size_of (begin_node at (Ok name)) = 4 + up4 (length name + 1)
size_of (begin_node at (Err fault)) = 4
size_of (end_node at) = 4
size_of (prop at (Ok p)) = 12 + up4 (length p.value)
size_of (prop at (Err fault)) = 4
size_of (nop at) = 4
size_of (last at) = 4
size_of (stray at fault) = 4

-- the bytes of a token in a file
abbrev pub bytes_of : List ℕ → Token → List ℕ
bytes_of file t = slice file (offset t) (size_of t)

-- what is signed of a token
abbrev pub signed : (ℕ → Bool) → List ℕ → Placed → List ℕ
signed listed file p = if covers listed p.nodes p.token then bytes_of file p.token else []

-- what is signed of tokens, with these nodes open before them
abbrev pub signed_of : (ℕ → Bool) → List ℕ → List ℕ → List Token → List ℕ
signed_of listed file nodes ts = flat_map (signed listed file) (in_nodes nodes ts)

-- the offset is among these
abbrev pub is_marked : List ℕ → ℕ → Bool
is_marked marks at = list_any (λ mark. mark == at) marks
