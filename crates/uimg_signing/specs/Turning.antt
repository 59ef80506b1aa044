-- What is done at a token.
use Rattle.std.specs.Prelude.{◌≡◌, ℕ, ◌+◌, ◌*◌, ◌^◌, ◌<◌, ◌≤◌, List, [], ◌∷◌, Bool, true, false, not, ◌&&◌, ◌==◌}
use Rattle.std.specs.Prelude.{if◌then◌else◌, Some, None}
use Rattle.uimg_blob_reading.specs.{Tokens.{Token, begin_node, end_node, prop, nop, last, stray, next, offset}}
use Rattle.uimg_blob_reading.specs.ReadTokens.{IsReadAs}
use Rattle.uimg_blob_reading.specs.declared.tokens.ReadToken.{ReadToken}
use Rattle.uimg_signing.specs.declared.turns.{Walk.Walk, Turn.Turn}
use Rattle.uimg_signing.specs.Covering.{around, after, covers, size_of, is_marked, placed_in, begins_deep}

-- the open nodes as a number: a bit for each, the innermost the lowest, above them 4
abbrev pub coded : (ℕ → Bool) → List ℕ → ℕ
coded listed [] = 4
coded listed (a ∷ nodes) = coded listed nodes * 2 + (if listed a then 1 else 0)

-- the token is FDT_END
abbrev pub is_last : Token → Bool
is_last (begin_node at name) = false
is_last (end_node at) = false
is_last (prop at p) = false
is_last (nop at) = false
is_last (last at) = true
is_last (stray at fault) = false

-- the token is a property
abbrev pub is_property : Token → Bool
is_property (begin_node at name) = false
is_property (end_node at) = false
is_property (prop at p) = true
is_property (nop at) = false
is_property (last at) = false
is_property (stray at fault) = false

-- the token is FDT_END, and its block does not end with it
abbrev pub ends_early : ℕ → Token → Bool
ends_early block_end t = is_last t && not (offset t + 4 == block_end)

-- What is done at a token inside these open nodes.
pub record TurnsAt (listed : ℕ → Bool) (at : ℕ) (nodes : List ℕ) (t : Token) (turn : Turn) : Type 0 where
  pub covered : turn.is_covered ≡ covers listed (around nodes t) t
  pub size : turn.size ≡ size_of t
  pub place : offset t ≡ at
  pub bits : turn.bits ≡ coded listed (after nodes t)
  pub last : turn.is_last ≡ is_last t
  pub property : turn.is_property ≡ is_property t
  pub next : next t ≡ (if turn.is_last then None else Some (at + turn.size))

-- The same for whatever token was read inside whatever nodes have this number.
abbrev pub Turns : List ℕ → Walk → ReadToken → Turn → Type 0
Turns marks walk found turn =
    (nodes : List ℕ) (t : Token) → walk.bits ≡ coded (is_marked marks) nodes
    → IsReadAs walk.at t found → TurnsAt (is_marked marks) walk.at nodes t turn

-- The token does not begin a node that is in 32 others.
abbrev pub IsShallow : ℕ → ℕ → ReadToken → Type 0
IsShallow at bits found =
    (listed : ℕ → Bool) (nodes : List ℕ) (t : Token) → bits ≡ coded listed nodes
    → IsReadAs at t found → begins_deep (placed_in nodes t) ≡ false

-- The token has at least a word, a property three, and ends below 2^33.
pub record LiesBefore (walk : Walk) (turn : Turn) : Type 0 where
  pub some : 4 ≤ turn.size
  pub head : turn.is_property ≡ true → 12 ≤ turn.size
  pub within : walk.at + turn.size < 2 ^ 33
