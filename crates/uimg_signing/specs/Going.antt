-- A walk over the tokens of a tree never meets a token that is not allowed.
use Rattle.std.specs.Prelude.{◌≡◌, ℕ, ◌+◌, ◌<◌, ◌≤◌, Some, List, [], ◌∷◌, length, Ok, Err, Bool, true, false, ◌⊎◌}
use Rattle.uimg_blob_reading.specs.Tokens.{Token, begin_node, end_node, prop, nop, last, stray, next}
use Rattle.uimg_blob_reading.specs.Tokens.{Blocks}
use Rattle.uimg_signing.specs.{Covering.{size_of, placed_in, begins_deep}, Turning.is_last}
use Rattle.uimg_blob_reading.specs.{Grammar.Siblings, Walk.{Open, walk, begun, finished}}
use Rattle.uimg_signing.specs.declared.faults.SigningFault.{SigningFault}
use Rattle.uimg_signing.specs.declared.faults.SigningFault.TheVariants.{Changed, TooDeep}

-- the token is faulty, or ends no node
abbrev pub is_wrong : List ℕ → Token → Bool
is_wrong nodes (begin_node at (Ok name)) = false
is_wrong nodes (begin_node at (Err fault)) = true
is_wrong [] (end_node at) = true
is_wrong (a ∷ nodes) (end_node at) = false
is_wrong nodes (prop at (Ok p)) = false
is_wrong nodes (prop at (Err fault)) = true
is_wrong nodes (nop at) = false
is_wrong nodes (last at) = false
is_wrong nodes (stray at fault) = true

-- The tokens go on to a tree, with these nodes open before them.
abbrev pub GoesWell : Siblings → List ℕ → List Token → Type 0
GoesWell t [] ts = (begun ts ≡ Ok t) ⊎ ((root : Siblings) × (finished root ts ≡ Ok t))
GoesWell t (a ∷ nodes) ts = (o : Open) × (ls : List Open) × (length ls ≡ length nodes) × (walk o ls ts ≡ Ok t)

-- The token begins in the block and ends behind it.
pub record Beyond (b : Blocks) (at : ℕ) (t : Token) : Type 0 where
  pub fits : at + 4 ≤ b.structure_end
  pub beyond : b.structure_end < at + size_of t
  pub next : is_last t ≡ false → next t ≡ Some (at + size_of t)

-- A tree has no such token, with these nodes open before it.
abbrev pub IsBad : Blocks → List ℕ → ℕ → Token → Type 0
IsBad b nodes at t = (is_wrong nodes t ≡ true) ⊎ Beyond b at t

-- Why a token is refused, with these nodes open before it.
abbrev pub RefusesTurn : SigningFault → List ℕ → Token → Type 0
RefusesTurn Changed nodes t = is_wrong nodes t ≡ true
RefusesTurn TooDeep nodes t = begins_deep (placed_in nodes t) ≡ true
RefusesTurn _ nodes t = ⊥
