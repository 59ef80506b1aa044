-- The spans of a node's properties, and what is met after its name.
use Rattle.std.specs.Prelude.{◌≡◌, ℕ, ◌+◌, ◌≤◌, List, Option, Some, None, Result, Ok, Err, IfOk}
use Rattle.std.specs.Prelude.{IsTrue, Bool, true, false, is_ok, is_err, cond, ⊤}
use Rattle.uimg_texts.specs.{Nul.before_nul, Slices.slice}
use Rattle.uimg_base.specs.{declared.{source.SourceFault.SourceFault, spans.Span.Span}, Held.Held}
use Rattle.uimg_base.specs.{Device.Device, Using.UsesAtMost}
use Rattle.uimg_blob_reading.specs.declared.{fault.BlobFault.BlobFault, extent.Extent.Extent}
use Rattle.uimg_blob_reading.specs.declared.{tokens.Head.Head, places.PropertyPlace.PropertyPlace}
use Rattle.uimg_blob_reading.specs.{declared.places.Met.Met, Counts.is_prop, Plain.NamedOf}
use Rattle.uimg_blob_reading.specs.declared.places.Met.TheVariants.{Place, Nop, Edge, Strange}
use Rattle.uimg_blob_reading.specs.Tokens.{Property, Token, begin_node, end_node, prop, nop, last}
use Rattle.uimg_blob_reading.specs.Tokens.{stray, reach, property_with_name, property_at, token_at}
use Rattle.uimg_blob_reading.specs.{Indexed.property_span, Extents.blocks_of}

-- the name and the value's span that these spans give in a file
abbrev pub read_place : List ℕ → PropertyPlace → NamedOf Span
read_place file x = record { name = slice file x.name.place x.name.length; value = x.value }

-- the name and the value's span of a property
abbrev pub placed : Property → NamedOf Span
placed p = record { name = p.name; value = property_span p }

-- Name and value end at `limit` or before, and the name has at most 255 bytes.
pub record EndsBy (limit : ℕ) (x : PropertyPlace) : Type 0 where
  pub name : x.name.place + x.name.length ≤ limit
  pub value : x.value.place + x.value.length ≤ limit
  pub short : x.name.length ≤ 255

-- The property has a value of this length and its name at this offset, or the token this fault.
abbrev pub IsHead : List ℕ → Extent → ℕ → Result Head BlobFault → Type 0
IsHead bytes x at (Ok h) =
    property_at (blocks_of bytes x) at
    ≡ property_with_name (before_nul (reach bytes h.name (x.strings + x.strings_size))) (at + 12)
    (slice bytes (at + 12) h.length)
IsHead bytes x at (Err fault) = property_at (blocks_of bytes x) at ≡ Err fault

-- The property's value is inside the structure block, and its name begins inside the strings block.
pub record HeadWithin (x : Extent) (at : ℕ) (h : Head) : Type 0 where
  pub value : at + 12 + h.length ≤ x.structure_end
  pub name : h.name ≤ x.strings + x.strings_size

-- The name at an offset before `end` has this length, or no NUL.
abbrev pub NameIs : List ℕ → ℕ → ℕ → Option ℕ → Type 0
NameIs bytes at end (Some n) = before_nul (reach bytes at end) ≡ Some (slice bytes at n)
NameIs bytes at end None = before_nul (reach bytes at end) ≡ None

-- The spans are those of the token's property, or `None` if the token is faulty.
abbrev pub FindsPlace : List ℕ → Result Property BlobFault → Option PropertyPlace → Type 0
FindsPlace file found (Some x) = (p : Property) × (found ≡ Ok p) × (read_place file x ≡ placed p)
FindsPlace file found None = is_ok found ≡ false

-- the token begins or ends a node
abbrev pub is_edge : Token → Bool
is_edge (begin_node at name) = true
is_edge (end_node at) = true
is_edge (prop at property) = false
is_edge (nop at) = false
is_edge (last at) = false
is_edge (stray at fault) = false

-- the token is not allowed among a node's properties
abbrev pub is_strange : Token → Bool
is_strange (begin_node at name) = false
is_strange (end_node at) = false
is_strange (prop at (Ok p)) = false
is_strange (prop at (Err fault)) = true
is_strange (nop at) = false
is_strange (last at) = true
is_strange (stray at fault) = true

-- This is met at a token of a file.
abbrev pub IsMet : List ℕ → ℕ → Token → Met → Type 0
IsMet file at token (Place x) =
    (p : Property) × (token ≡ prop at (Ok p)) × (read_place file x ≡ placed p)
IsMet file at token Nop = token ≡ nop at
IsMet file at token Edge = is_edge token ≡ true
IsMet file at token Strange = is_strange token ≡ true

-- The value is after the token's fields, inside the structure block; the name, of at most 255
-- bytes, is inside the blob.
pub record Lies (x : Extent) (at : ℕ) (found : PropertyPlace) : Type 0 where
  pub value : found.value.place ≡ at + 12
  pub within : at + 12 + found.value.length ≤ x.structure_end
  pub name : found.name.place + found.name.length ≤ x.totalsize
  pub short : found.name.length ≤ 255

-- What was met is inside the blocks, whatever the source returned.
abbrev pub MetWithin : Extent → ℕ → Met → Type 0
MetWithin x at (Place found) = Lies x at found
MetWithin x at Nop = at + 4 ≤ x.structure_end
MetWithin x at Edge = ⊤
MetWithin x at Strange = ⊤

-- the most bytes that are requested to meet a token: its word, and a property's fields and name
abbrev pub meeting_cost : Token → ℕ
meeting_cost t = cond (is_prop t) 268 4

-- What is met at an offset, and what that costs.
pub record MeetsToken (x : Extent) (at : ℕ) (result : Result Met SourceFault) (d e : Device)
    (h k : Held) : Type 0 where
  pub uses : UsesAtMost (meeting_cost (token_at (blocks_of d.bytes x) at)) (is_err result) d e
  pub room : k ≡ h
  pub met : IsTrue d.honest
      → IfOk result (λ found. IsMet d.bytes at (token_at (blocks_of d.bytes x) at) found)
  pub stands : IfOk result (λ found. MetWithin x at found)
