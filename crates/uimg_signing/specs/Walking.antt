-- What the walk over the tokens feeds.
use Rattle.std.specs.Prelude.{◌≡◌, ℕ, ◌+◌, ◌-◌, ◌*◌, ◌<◌, ◌≤◌, List, [], ◌++◌, Bool, false}
use Rattle.std.specs.Prelude.{if◌then◌else◌, Option, Some, None, Result, Ok, IfOk, IfErr, IfSome, OnOk, IsTrue, ◌&&◌, not, true, ◌⊎◌}
use Rattle.uimg_base.specs.{Device.Device, Held.Held, Using.Uses}
use Rattle.uimg_texts.specs.{Slices.slice}
use Rattle.uimg_blob_reading.specs.declared.extent.Extent.{Extent}
use Rattle.uimg_blob_reading.specs.Tokens.{Token, Blocks, token_at, next, tokens, tokens_from}
use Rattle.uimg_blob_reading.specs.Extents.{blocks_of}
use Rattle.uimg_signing.specs.declared.faults.SigningFault.{SigningFault}
use Rattle.uimg_signing.specs.declared.faults.SigningFault.TheVariants.{Read, NameUnsigned}
use Rattle.uimg_signing.specs.declared.turns.{Walk.Walk, Turn.Turn}
use Rattle.uimg_signing.specs.Covering.{after, signed, signed_of, is_marked, placed_in}
use Rattle.uimg_blob_reading.specs.Grammar.{Siblings, root, without_nops}
use Rattle.uimg_signing.specs.{Turning.coded, Faults.{is_unread, Refuses}, Going.GoesWell}
use Rattle.uimg_signing.specs.Refusing.{is_named, token_refusal, walk_refusal, RefusesToken}

-- Some bytes were fed: of an honest device these.
pub record Feeds {T : Type 0} (fed : T → T → List ℕ → Type 0) (honest : Bool) (bytes : List ℕ)
    (old new : T) : Type 0 where
  pub piece : List ℕ
  pub summed : fed old new piece
  pub right : IsTrue honest → piece ≡ bytes

-- the token is signed, but its name is not
abbrev pub lacks_name : List ℕ → Walk → Turn → Bool
lacks_name file walk turn =
    turn.is_covered && not (is_named turn.is_property file walk.at walk.names)

-- A token's bytes were fed, or none.
pub record FeedsTurn {T : Type 0} (fed : T → T → List ℕ → Type 0) (walk : Walk) (turn : Turn)
    (result : Result Unit SigningFault) (d e : Device) (h k : Held) (old new : T) : Type 0 where
  pub uses : Uses (is_unread result) d e
  pub asked : e.asked ≤ d.asked + (if turn.is_property then 4 else 0) + turn.size
  pub room : k ≡ h
  pub refused : IfErr result (λ fault. (fault ≡ Read) ⊎ ((fault ≡ NameUnsigned)
      × (IsTrue d.honest → lacks_name d.bytes walk turn ≡ true)))
  pub named : OnOk result (IsTrue d.honest → lacks_name d.bytes walk turn ≡ false)
  pub feeds : OnOk result
      (Feeds fed d.honest (if turn.is_covered then slice d.bytes walk.at turn.size else []) old new)

-- what is signed of a token inside these open nodes
abbrev pub signed_at : (ℕ → Bool) → List ℕ → List ℕ → Token → List ℕ
signed_at listed file nodes t = signed listed file (placed_in nodes t)

-- the walk is at the token after this one
abbrev pub GoesOn : (ℕ → Bool) → List ℕ → Token → Option Walk → Type 0
GoesOn listed nodes t None = next t ≡ None
GoesOn listed nodes t (Some walk) =
    (next t ≡ Some walk.at) × (walk.bits ≡ coded listed (after nodes t))

-- What was fed of a token, and where the walk is after it.
pub record Passes {T : Type 0} (fed : T → T → List ℕ → Type 0) (listed : ℕ → Bool) (honest : Bool)
    (b : Blocks) (walk : Walk) (then_at : Option Walk) (old new : T) : Type 0 where
  pub piece : List ℕ
  pub summed : fed old new piece
  pub right : IsTrue honest → (nodes : List ℕ) → walk.bits ≡ coded listed nodes
      → (piece ≡ signed_at listed b.bytes nodes (token_at b walk.at))
      × GoesOn listed nodes (token_at b walk.at) then_at
  pub taken : IsTrue honest → (nodes : List ℕ) → walk.bits ≡ coded listed nodes
      → token_refusal listed b walk.names (placed_in nodes (token_at b walk.at)) ≡ None

-- A step over one token.
pub record Steps {T : Type 0} (fed : T → T → List ℕ → Type 0) (marks : List ℕ) (x : Extent)
    (walk : Walk) (result : Result (Option Walk) SigningFault) (d e : Device) (h k : Held)
    (old new : T) : Type 0 where
  pub uses : Uses (is_unread result) d e
  pub asked : e.asked ≤ d.asked + 272 + (x.structure_end - walk.at)
  pub room : k ≡ h
  pub ahead : IfOk result (λ o. IfSome o (λ n. (n.names ≡ walk.names) × (walk.at + 4 ≤ n.at)
      × (n.at ≤ x.structure_end) × (e.asked + 68 * walk.at ≤ d.asked + 68 * n.at)))
  pub refused : IsTrue d.honest → (nodes : List ℕ) → walk.bits ≡ coded (is_marked marks) nodes
      → IfErr result (RefusesToken (is_marked marks) (blocks_of d.bytes x) walk.names nodes walk.at)
  pub passes : IfOk result
      (λ o. Passes fed (is_marked marks) d.honest (blocks_of d.bytes x) walk o old new)

-- The walk over all tokens.
pub record Walks {T : Type 0} (fed : T → T → List ℕ → Type 0) (marks : List ℕ) (names : ℕ)
    (x : Extent) (result : Result Unit SigningFault) (d e : Device) (h k : Held)
    (old new : T) : Type 0 where
  pub uses : Uses (is_unread result) d e
  pub asked : e.asked ≤ d.asked + 272 + 68 * (x.structure_end - x.structure)
  pub room : k ≡ h
  -- over the bytes of a tree
  pub refused : IsTrue d.honest → (t : Siblings)
      → root (without_nops (tokens (blocks_of d.bytes x))) ≡ Ok t
      → Refuses (walk_refusal (is_marked marks) (blocks_of d.bytes x) names []
      (tokens (blocks_of d.bytes x))) result
  pub feeds : OnOk result (Feeds fed d.honest
      (signed_of (is_marked marks) d.bytes [] (tokens (blocks_of d.bytes x))) old new)

-- The tokens before the walk's were fed.
pub record SoFar {T : Type 0} (fed : T → T → List ℕ → Type 0) (listed : ℕ → Bool) (honest : Bool)
    (b : Blocks) (walk : Walk) (old new : T) : Type 0 where
  pub piece : List ℕ
  pub summed : fed old new piece
  pub nodes : List ℕ
  pub fuel : ℕ
  pub bits : IsTrue honest → walk.bits ≡ coded listed nodes
  pub well : IsTrue honest → (t : Siblings) → root (without_nops (tokens b)) ≡ Ok t
      → GoesWell t nodes (tokens_from fuel b (Some walk.at))
  pub taken : IsTrue honest
      → walk_refusal listed b walk.names nodes (tokens_from fuel b (Some walk.at))
      ≡ walk_refusal listed b walk.names [] (tokens b)
  pub enough : b.structure_end < walk.at + fuel
  pub right : IsTrue honest → piece
      ++ signed_of listed b.bytes nodes (tokens_from fuel b (Some walk.at))
      ≡ signed_of listed b.bytes [] (tokens b)
