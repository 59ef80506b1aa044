-- The grammar of the structure block (Devicetree Specification, section 5.4.2).
use Rattle.std.specs.Prelude.{ℕ, suc, List, [], ◌∷◌, length, Result, Ok, Err}
use Rattle.uimg_blob_reading.specs.{declared.fault.BlobFault.TheVariants.BadNesting, Reading.Fault}
use Rattle.uimg_blob_reading.specs.Tokens.{Property, Token, begin_node, end_node, prop, nop, last}
use Rattle.uimg_blob_reading.specs.Tokens.{stray}
use Rattle.uimg_base.specs.Results.{◌>>=◌}

-- Siblings: none, or a node (offset, name, properties, children) and the nodes after it.
pub data Siblings : Type 0 where
  none : Siblings
  node : ℕ → List ℕ → List Property → Siblings → Siblings → Siblings

-- What is read at the start of a list of tokens, and the tokens after it.
abbrev pub Parses : Type 0 → Type 0
Parses A = List Token → Result (A × List Token) Fault

-- the fault of a token that is not allowed here; a stray token has its own fault
abbrev pub misplaced : Token → Fault
misplaced (stray at fault) = (fault, at)
misplaced (begin_node at name) = (BadNesting, at)
misplaced (end_node at) = (BadNesting, at)
misplaced (prop at property) = (BadNesting, at)
misplaced (nop at) = (BadNesting, at)
misplaced (last at) = (BadNesting, at)

-- the first token is not allowed here; the tokens of a block never end before their last or a fault
abbrev pub misplaced_first : {A : Type 0} → List Token → Result A Fault
misplaced_first [] = Err (BadNesting, 0)
misplaced_first (t ∷ ts) = Err (misplaced t)

-- properties: a property followed by properties, or nothing if the next token is not a property
unfoldable pub properties : Parses (List Property)
properties (prop at (Ok p) ∷ ts) = do
  more ← properties ts
  Ok (p ∷ more.0, more.1)
properties (prop at (Err fault) ∷ ts) = Err (fault, at)
properties ts = Ok ([], ts)

-- the end of a node
abbrev pub end : List Token → Result (List Token) Fault
end (end_node at ∷ ts) = Ok ts
end ts = misplaced_first ts

-- the rest of a node after its name: properties, children, end
abbrev pub inside : Parses Siblings → Parses (List Property × Siblings)
inside children ts = do
  own ← properties ts
  below ← children own.1
  rest ← end below.1
  Ok ((own.0, below.0), rest)

-- children: a node and children, or nothing if no node begins; n bounds their depth and number
unfoldable pub children : ℕ → Parses Siblings
children (suc n) (begin_node at (Ok name) ∷ ts) = do
  first ← inside (children n) ts
  more ← children n first.1
  Ok (node at name first.0.0 first.0.1 more.0, more.1)
children (suc n) (begin_node at (Err fault) ∷ ts) = Err (fault, at)
children n ts = Ok (none, ts)

-- the end of the tree
abbrev pub ended : {A : Type 0} → A → List Token → Result A Fault
ended root (last at ∷ ts) = Ok root
ended root ts = misplaced_first ts

-- the root and the end of the tree
unfoldable pub root : List Token → Result Siblings Fault
root (begin_node at (Ok name) ∷ ts) = do
  it ← inside (children (length ts)) ts
  ended (node at name it.0.0 it.0.1 none) it.1
root (begin_node at (Err fault) ∷ ts) = Err (fault, at)
root ts = misplaced_first ts

-- the tokens without FDT_NOP, which is allowed anywhere
unfoldable pub without_nops : List Token → List Token
without_nops [] = []
without_nops (nop at ∷ ts) = without_nops ts
without_nops (t ∷ ts) = t ∷ without_nops ts
