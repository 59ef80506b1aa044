-- The structure block as a list of tokens (Devicetree Specification, section 5.4.1).
use Rattle.std.specs.Prelude.{ℕ, zero, suc, ◌+◌, ◌-◌, List, [], ◌∷◌, length, take, drop, Option}
use Rattle.std.specs.Prelude.{Some, None, Result, Ok, Err, nat_lt, ◌==◌, if◌then◌else◌}
use Rattle.uimg_texts.specs.{Nul.before_nul, Slices.slice, Numbers.{be32, up4}}
use Rattle.uimg_blob_reading.specs.declared.fault.BlobFault.{BlobFault, TheVariants.BadNodeName}
use Rattle.uimg_blob_reading.specs.declared.fault.BlobFault.TheVariants.{BadToken, Truncated}
use Rattle.uimg_blob_reading.specs.declared.fault.BlobFault.TheVariants.{BadPropertyName}

-- A property: its name, the offset of its value in the file, and the value.
pub record Property : Type 0 where
  pub name : List ℕ
  pub place : ℕ
  pub value : List ℕ

-- A token with its offset. A node's name and a property may be faulty; a stray is not a token.
pub data Token : Type 0 where
  begin_node : ℕ → Result (List ℕ) BlobFault → Token
  end_node : ℕ → Token
  prop : ℕ → Result Property BlobFault → Token
  nop : ℕ → Token
  last : ℕ → Token
  stray : ℕ → BlobFault → Token

-- the offset of a token
abbrev pub offset : Token → ℕ
offset (begin_node at name) = at
offset (end_node at) = at
offset (prop at property) = at
offset (nop at) = at
offset (last at) = at
offset (stray at fault) = at

-- The file, the start and end of its structure block, and the start and size of its strings block.
pub record Blocks : Type 0 where
  pub bytes : List ℕ
  pub structure : ℕ
  pub structure_end : ℕ
  pub strings : ℕ
  pub strings_size : ℕ

-- the bytes from an offset up to `end`, at most 256: a name and its NUL
abbrev pub reach : List ℕ → ℕ → ℕ → List ℕ
reach bytes at end = take 256 (take (end - at) (drop at bytes))

-- A node's name ends with a NUL. If there is none in 256 bytes it is too long, in fewer truncated.
abbrev pub node_name : Option (List ℕ) → ℕ → Result (List ℕ) BlobFault
node_name (Some name) size = Ok name
node_name None size = if size == 256 then Err BadNodeName else Err Truncated

-- the property, if its name is in the strings block
abbrev pub property_with_name : Option (List ℕ) → ℕ → List ℕ → Result Property BlobFault
property_with_name (Some name) place value =
    Ok (record { name = name; place = place; value = value })
property_with_name None place value = Err BadPropertyName

-- The property of a token: a length, an offset in the strings block, and a value of that length.
abbrev pub property_at : Blocks → ℕ → Result Property BlobFault
property_at b at =
    if nat_lt b.structure_end (at + 12) then Err Truncated
    else if nat_lt b.structure_end (at + 12 + be32 b.bytes (at + 4)) then Err Truncated
    else if nat_lt (be32 b.bytes (at + 8)) b.strings_size then
    property_with_name (before_nul
    (reach b.bytes (b.strings + be32 b.bytes (at + 8)) (b.strings + b.strings_size)))
    (at + 12) (slice b.bytes (at + 12) (be32 b.bytes (at + 4)))
    else Err BadPropertyName

-- the token that begins a node, from the bytes after it
abbrev pub begins : ℕ → List ℕ → Token
begins at near = begin_node at (node_name (before_nul near) (length near))

-- FDT_BEGIN_NODE, FDT_END_NODE, FDT_PROP, FDT_NOP, FDT_END, or not a token
abbrev pub by_word : Blocks → ℕ → ℕ → Token
by_word b at word =
    if word == 1 then begins at (reach b.bytes (at + 4) b.structure_end)
    else if word == 2 then end_node at
    else if word == 3 then prop at (property_at b at)
    else if word == 4 then nop at
    else if word == 9 then last at
    else stray at BadToken

-- the token at an offset, unless the block ends inside its word
unfoldable pub token_at : Blocks → ℕ → Token
token_at b at =
    if nat_lt b.structure_end (at + 4) then stray at Truncated else by_word b at (be32 b.bytes at)

-- the offset of the next token: none after FDT_END or a fault
abbrev pub next : Token → Option ℕ
next (begin_node at (Ok name)) = Some (at + 4 + up4 (length name + 1))
next (begin_node at (Err fault)) = None
next (end_node at) = Some (at + 4)
next (prop at (Ok p)) = Some (at + 12 + up4 (length p.value))
next (prop at (Err fault)) = None
next (nop at) = Some (at + 4)
next (last at) = None
next (stray at fault) = None

-- the tokens from an offset on, at most n
unfoldable pub tokens_from : ℕ → Blocks → Option ℕ → List Token
tokens_from n b None = []
tokens_from zero b (Some at) = []
tokens_from (suc n) b (Some at) = token_at b at ∷ tokens_from n b (next (token_at b at))

-- The tokens of the block. Each takes a word, so there are at most as many as bytes, and one stray.
abbrev pub tokens : Blocks → List Token
tokens b = tokens_from (suc (b.structure_end - b.structure)) b (Some b.structure)
