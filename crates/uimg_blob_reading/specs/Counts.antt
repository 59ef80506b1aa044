-- The counts that bound the reading of a blob.
use Rattle.std.specs.Prelude.{ℕ, ◌+◌, ◌*◌, List, [], ◌∷◌, length, Result, Ok, Err, Bool, true}
use Rattle.std.specs.{Prelude.{false, nat_lt, if◌then◌else◌, cond}, List.{count_by, sum_by}}
use Rattle.uimg_blob_reading.specs.{declared.fault.BlobFault.BlobFault, Reading.Fault, Keys.is_text}
use Rattle.uimg_blob_reading.specs.Tokens.{Token, Property, begin_node, end_node, prop, nop, last}
use Rattle.uimg_blob_reading.specs.{Tokens.{stray, offset}, Grammar.Siblings, Blob.{tree, met}}

-- the token begins a node
abbrev pub is_begin : Token → Bool
is_begin (begin_node at name) = true
is_begin (end_node at) = false
is_begin (prop at property) = false
is_begin (nop at) = false
is_begin (last at) = false
is_begin (stray at fault) = false

-- the token is a property
abbrev pub is_prop : Token → Bool
is_prop (begin_node at name) = false
is_prop (end_node at) = false
is_prop (prop at property) = true
is_prop (nop at) = false
is_prop (last at) = false
is_prop (stray at fault) = false

-- the token is FDT_NOP
abbrev pub is_nop : Token → Bool
is_nop (begin_node at name) = false
is_nop (end_node at) = false
is_nop (prop at property) = false
is_nop (nop at) = true
is_nop (last at) = false
is_nop (stray at fault) = false

-- how many nodes begin, up to the end or the first fault
abbrev pub nodes_met : List ℕ → ℕ
nodes_met file = count_by is_begin (met file)

-- how many properties were met
abbrev pub properties_met : List ℕ → ℕ
properties_met file = count_by is_prop (met file)

-- how many FDT_NOP were met
abbrev pub nops_met : List ℕ → ℕ
nops_met file = count_by is_nop (met file)

-- the length of a property's value if its name is that of a text, otherwise 0
abbrev pub text_of : (List ℕ → Bool) → Result Property BlobFault → ℕ
text_of texts (Ok p) = if texts p.name then length p.value else 0
text_of texts (Err fault) = 0

-- the length of a token's text
abbrev pub text_length : (List ℕ → Bool) → Token → ℕ
text_length texts (begin_node at name) = 0
text_length texts (end_node at) = 0
text_length texts (prop at property) = text_of texts property
text_length texts (nop at) = 0
text_length texts (last at) = 0
text_length texts (stray at fault) = 0

-- the tokens before an offset
unfoldable pub tokens_before : ℕ → List Token → List Token
tokens_before at [] = []
tokens_before at (t ∷ ts) = if nat_lt (offset t) at then t ∷ tokens_before at ts else []

-- the tokens that were read without fault
abbrev pub sound_in : Result Siblings Fault → List Token → List Token
sound_in (Ok t) ts = ts
sound_in (Err e) ts = tokens_before e.1 ts

-- the bytes of all texts that were read without fault
abbrev pub texts_met : (List ℕ → Bool) → List ℕ → ℕ
texts_met texts file = sum_by (text_length texts) (sound_in (tree file) (met file))

-- the most bytes that are requested besides payloads
abbrev pub meta : List ℕ → ℕ
meta file =
    64 + 1024 * (nodes_met file + properties_met file) + 4 * (texts_met is_text file + nops_met file)

-- the most bytes that indexing a blob requests: its header, a word and at most 256 bytes of a name
-- for each token, and the words of lengths and ends
abbrev pub index_cost : List ℕ → ℕ
index_cost file = 44 + 264 * nodes_met file + 268 * properties_met file + 4 * nops_met file

-- the number of nodes that a token begins
abbrev pub begun_by : Token → ℕ
begun_by t = cond (is_begin t) 1 0

-- the most bytes requested at a token; a node's include 4 for its end
abbrev pub weight : Token → ℕ
weight (begin_node at name) = 264
weight (end_node at) = 0
weight (prop at property) = 268
weight (nop at) = 4
weight (last at) = 0
weight (stray at fault) = 0
