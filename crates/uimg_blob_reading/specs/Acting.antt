-- What a pass does at a token, and the source and room afterwards.
use Rattle.std.specs.Prelude.{◌≡◌, ◌+◌, ◌*◌, ◌<◌, ◌≤◌, ℕ, List, length, Option, Result, Ok, Err}
use Rattle.std.specs.Prelude.{IfOk, IfErr, IfSome, Bool, true, false, IsTrue}
use Rattle.uimg_base.specs.{Device.Device, Held.{Held, AddsOne, Grows}, Using.{Uses, UsesAtMost}}
use Rattle.uimg_blob_reading.specs.declared.{fault.IndexFault.IndexFault, extent.Extent.Extent}
use Rattle.uimg_blob_reading.specs.declared.{states.State.State, tokens.ReadToken.ReadToken}
use Rattle.uimg_blob_reading.specs.declared.tokens.ReadToken.TheVariants.{BeginNode, BadBeginNode}
use Rattle.uimg_blob_reading.specs.declared.tokens.ReadToken.TheVariants.{EndNode, Prop, BadProp}
use Rattle.uimg_blob_reading.specs.declared.tokens.ReadToken.TheVariants.{Nop, End, Stray}
use Rattle.uimg_blob_reading.specs.{Faults.{is_read, is_out_of_memory, is_of_making}, Walk.begun}
use Rattle.uimg_blob_reading.specs.{Extents.blocks_of, Tokens.{Token, token_at, tokens, next}}
use Rattle.uimg_blob_reading.specs.ReadTokens.{IsReadAs, Stands, cost}
use Rattle.uimg_blob_reading.specs.Passes.{Phase, InPhase, step, is_done, Goes, RefusesMemory}
use Rattle.uimg_blob_reading.specs.Passes.{PassesToken, Indexes, Passed, Within, IsPrefix, StopsAt}

-- The innermost node has an entry, and each entry at least eight bytes before the state's offset.
pub record Suits (s : State) (es : List (List ℕ)) : Type 0 where
  pub current : IfSome s.current (λ i. i < length es)
  pub few : 8 * length es ≤ s.at

-- the token begins a node
abbrev pub is_begin_node : ReadToken → Bool
is_begin_node (BeginNode size label) = true
is_begin_node (BadBeginNode fault) = false
is_begin_node EndNode = false
is_begin_node (Prop size key) = false
is_begin_node (BadProp fault) = false
is_begin_node Nop = false
is_begin_node End = false
is_begin_node (Stray fault) = false

-- a node begins, so an entry is added
abbrev pub adds_entry : ReadToken → Result State IndexFault → Bool
adds_entry token (Ok s) = is_begin_node token
adds_entry token (Err e) = false

-- The result of acting on a token, in each phase of the pass. The next offset is after the token,
-- which ends inside the structure block. Memory is refused only if a node begins.
pub record Does (token : ReadToken) (s : State) (result : Result State IndexFault) (old new : Held)
    : Type 0 where
  -- what the token does in one pass
  pub goes : (p : Phase) (t : Token) → InPhase p s old.entries → IsReadAs s.at t token
      → is_done p t ≡ false → Goes (step p t) (next t) result old.entries new.entries
  -- memory is refused for a node that begins, at its offset, and for no other token
  pub refuses : (t : Token) → IsReadAs s.at t token → RefusesMemory t result
  -- the next offset is after this one
  pub ahead : (end : ℕ) → Stands end s.at token
      → IfOk result (λ n. (s.at + 4 ≤ n.at) × (n.at < end + 4))
  -- one more entry if a node begins, otherwise none
  pub room : AddsOne (adds_entry token result) (is_out_of_memory result) old new
  pub no_read : is_read result ≡ false
  pub no_making : is_of_making result ≡ false

-- A step requests at most the token's cost, the room only grows, and the result is the token's.
pub record TakesStep (x : Extent) (s : State) (result : Result (Option State) IndexFault)
    (d e : Device) (h k : Held) : Type 0 where
  pub uses : UsesAtMost (cost (token_at (blocks_of d.bytes x) s.at)) (is_read result) d e
  pub room : Grows (is_out_of_memory result) h k
  pub steps : (p : Phase) → InPhase p s h.entries
      → PassesToken d.honest (blocks_of d.bytes x) p s.at result h.entries k.entries
  pub no_making : is_of_making result ≡ false
  pub ahead : IfOk result (λ r. IfSome r (λ n. (s.at + 4 ≤ n.at) × (n.at < x.structure_end + 4)))

-- All steps: requests and entries are within the token counts, and the result is the tree or the
-- first fault. The entries are the tree's, or those so far: of the nodes before a refused growth.
pub record GoesOver (x : Extent) (result : Result State IndexFault) (d e : Device) (h k : Held)
    : Type 0 where
  pub uses : Uses (is_read result) d e
  pub room : Grows (is_out_of_memory result) h k
  pub no_making : is_of_making result ≡ false
  pub few : 8 * length k.entries ≤ x.structure_end + 4
  pub within : IsTrue d.honest
      → Within (blocks_of d.bytes x)
      (begun (tokens (blocks_of d.bytes x))) d.asked e.asked k.entries
  -- what is left if memory was refused
  pub prefix : IsTrue d.honest → IsPrefix (tokens (blocks_of d.bytes x)) result k.entries
  -- what is left after a refusal
  pub stops : IsTrue d.honest
      → IfErr result (λ fault. StopsAt (tokens (blocks_of d.bytes x)) fault k.entries)
  -- over any source
  pub passed : IfOk result (λ s. Passed d.honest (blocks_of d.bytes x) s k.entries)
  -- the tree, or its first fault
  pub indexes : IsTrue d.honest → Indexes (begun (tokens (blocks_of d.bytes x))) result k.entries
