-- What is read of a token, and what that costs.
use Rattle.std.specs.Prelude.{◌≡◌, ℕ, ◌+◌, ◌<◌, ◌≤◌, List, length, Option, Result, Ok, Err, IfOk}
use Rattle.std.specs.Prelude.{IsTrue, is_err, false, ⊤}
use Rattle.uimg_base.specs.{declared.source.SourceFault.SourceFault, Device.Device, Held.Held}
use Rattle.uimg_base.specs.Using.{Asks, UsesAtMost}
use Rattle.uimg_blob_reading.specs.declared.{extent.Extent.Extent, keys.Key.Key, labels.Label.Label}
use Rattle.uimg_blob_reading.specs.declared.{tokens.ReadToken.ReadToken, fault.BlobFault.BlobFault}
use Rattle.uimg_blob_reading.specs.declared.tokens.ReadToken.TheVariants.{BeginNode, BadBeginNode}
use Rattle.uimg_blob_reading.specs.declared.tokens.ReadToken.TheVariants.{EndNode, Prop, BadProp}
use Rattle.uimg_blob_reading.specs.declared.tokens.ReadToken.TheVariants.{Nop, End, Stray}
use Rattle.uimg_blob_reading.specs.{Keys.key_named, Labels.label_of, Extents.blocks_of}
use Rattle.uimg_blob_reading.specs.{Faults.{refuses_memory, is_too_large}, Tokens.{stray, token_at}}
use Rattle.uimg_blob_reading.specs.Tokens.{Token, Property, begin_node, end_node, prop, nop, last}

-- the most bytes requested to read a token: its word, 256 of a name, a property's two fields
abbrev pub cost : Token → ℕ
cost (begin_node at name) = 260
cost (end_node at) = 4
cost (prop at property) = 268
cost (nop at) = 4
cost (last at) = 4
cost (stray at fault) = 4

-- The token begins a node whose name has this length and label.
pub record ReadsBeginNode (at : ℕ) (token : Token) (size : ℕ) (label : Label) : Type 0 where
  pub name : List ℕ
  pub is : token ≡ begin_node at (Ok name)
  pub sized : size ≡ length name
  pub labelled : label ≡ label_of name

-- The token is a property with this key, whose value has this length.
pub record ReadsProp (at : ℕ) (token : Token) (size : ℕ) (key : Option Key) : Type 0 where
  pub property : Property
  pub is : token ≡ prop at (Ok property)
  pub place : property.place ≡ at + 12
  pub sized : size ≡ length property.value
  pub keyed : key ≡ key_named property.name

-- This is read of a token at an offset.
abbrev pub IsReadAs : ℕ → Token → ReadToken → Type 0
IsReadAs at token (BeginNode size label) = ReadsBeginNode at token size label
IsReadAs at token (BadBeginNode fault) = token ≡ begin_node at (Err fault)
IsReadAs at token EndNode = token ≡ end_node at
IsReadAs at token (Prop size key) = ReadsProp at token size key
IsReadAs at token (BadProp fault) = token ≡ prop at (Err fault)
IsReadAs at token Nop = token ≡ nop at
IsReadAs at token End = token ≡ last at
IsReadAs at token (Stray fault) = token ≡ stray at fault

-- What was read ends at `end` or before, over any source; a name has fewer than 256 bytes.
abbrev pub Stands : ℕ → ℕ → ReadToken → Type 0
Stands end at (BeginNode size label) = (size < 256) × (at + 4 + size + 1 ≤ end)
Stands end at (BadBeginNode fault) = ⊤
Stands end at EndNode = at + 4 ≤ end
Stands end at (Prop size key) = at + 12 + size ≤ end
Stands end at (BadProp fault) = ⊤
Stands end at Nop = at + 4 ≤ end
Stands end at End = at + 4 ≤ end
Stands end at (Stray fault) = ⊤

-- Some name has this length and label.
pub record HasName (size : ℕ) (label : Label) : Type 0 where
  pub name : List ℕ
  pub sized : size ≡ length name
  pub labelled : label ≡ label_of name

-- The fault of a token is neither refused memory nor a fault of building.
pub record IsOfToken (fault : BlobFault) : Type 0 where
  pub no_memory : refuses_memory fault ≡ false
  pub no_making : is_too_large fault ≡ false

-- What was read is possible for some token, over any source; a fault is one of a token.
abbrev pub IsSound : ReadToken → Type 0
IsSound (BeginNode size label) = HasName size label
IsSound (BadBeginNode fault) = IsOfToken fault
IsSound EndNode = ⊤
IsSound (Prop size key) = ⊤
IsSound (BadProp fault) = IsOfToken fault
IsSound Nop = ⊤
IsSound End = ⊤
IsSound (Stray fault) = IsOfToken fault

-- At most `most` bytes were requested, and P holds for an honest device's bytes and the result.
pub record Answers {X : Type 0} (most : ℕ) (result : Result X SourceFault) (P : List ℕ → X → Type 0)
    (d e : Device) : Type 0 where
  pub uses : Asks most (is_err result) d e
  pub told : IsTrue d.honest → IfOk result (P d.bytes)

-- At most `most` bytes were requested, and the room is unchanged. What was read ends at `end` or
-- before, whatever the source returned; of an honest device it is the token.
pub record ReadsToken (most : ℕ) (token : List ℕ → Token) (end at : ℕ)
    (result : Result ReadToken SourceFault) (d e : Device) (h k : Held) : Type 0 where
  pub uses : Asks most (is_err result) d e
  pub room : k ≡ h
  pub read : IsTrue d.honest → IfOk result (λ found. IsReadAs at (token d.bytes) found)
  pub sound : IfOk result (λ found. IsSound found)
  pub stands : IfOk result (λ found. Stands end at found)

-- As ReadsToken at an offset; of an honest device at most the token's cost is requested.
pub record ReadsTokenAt (x : Extent) (at : ℕ) (result : Result ReadToken SourceFault) (d e : Device)
    (h k : Held) : Type 0 where
  -- an honest device
  pub uses : UsesAtMost (cost (token_at (blocks_of d.bytes x) at)) (is_err result) d e
  -- any device
  pub most : e.asked ≤ d.asked + 268
  pub room : k ≡ h
  -- the token by the definition of the structure block
  pub read : IsTrue d.honest
      → IfOk result (λ found. IsReadAs at (token_at (blocks_of d.bytes x) at) found)
  -- what some token gives, over any device
  pub sound : IfOk result (λ found. IsSound found)
  -- what it names is inside the block, over any device
  pub stands : IfOk result (λ found. Stands x.structure_end at found)
