-- The grammar as one pass over the tokens, with a stack of open nodes.
use Rattle.std.specs.Prelude.{ℕ, List, [], ◌∷◌, ◌++◌, Result, Ok, Err}
use Rattle.uimg_blob_reading.specs.declared.fault.BlobFault.{BlobFault, TheVariants.BadNesting}
use Rattle.uimg_blob_reading.specs.{Reading.Fault, Tokens.stray, Grammar.{Siblings, none, node}}
use Rattle.uimg_blob_reading.specs.Tokens.{Property, Token, begin_node, end_node, prop, nop, last}

-- An open node: its offset, its name, and its properties and children so far.
pub data Open : Type 0 where
  opened : ℕ → List ℕ → List Property → Siblings → Open

-- siblings followed by more siblings
abbrev pub join : Siblings → Siblings → Siblings
join none more = more
join (node at name own below after) more = node at name own below (join after more)

-- an open node with one more child
abbrev pub with_child : Open → ℕ → List ℕ → List Property → Siblings → Open
with_child (opened at name own below) child_at child_name child_own child_below =
    opened at name own (join below (node child_at child_name child_own child_below none))

-- a node closed inside its parent
abbrev pub close : Open → Open → Open
close (opened at name own below) parent = with_child parent at name own below

-- a node closed without a parent
abbrev pub as_node : Open → Siblings
as_node (opened at name own below) = node at name own below none

-- a property is allowed only before the first child
abbrev pub at_prop : ℕ → Result Property BlobFault → Open → (Open → Result Siblings Fault)
    → Result Siblings Fault
at_prop at (Ok p) (opened place name own none) go_on =
    go_on (opened place name (own ++ p ∷ []) none)
at_prop at (Err fault) (opened place name own none) go_on = Err (fault, at)
at_prop at p (opened place name own (node a b c d e)) go_on = Err (BadNesting, at)

-- after the root
unfoldable pub finished : Siblings → List Token → Result Siblings Fault
finished root [] = Err (BadNesting, 0)
finished root (nop at ∷ ts) = finished root ts
finished root (last at ∷ ts) = Ok root
finished root (begin_node at name ∷ ts) = Err (BadNesting, at)
finished root (end_node at ∷ ts) = Err (BadNesting, at)
finished root (prop at p ∷ ts) = Err (BadNesting, at)
finished root (stray at fault ∷ ts) = Err (fault, at)

-- inside an open node and those around it
unfoldable pub walk : Open → List Open → List Token → Result Siblings Fault
walk o ls [] = Err (BadNesting, 0)
walk o ls (nop at ∷ ts) = walk o ls ts
walk o ls (begin_node at (Ok name) ∷ ts) = walk (opened at name [] none) (o ∷ ls) ts
walk o ls (begin_node at (Err fault) ∷ ts) = Err (fault, at)
walk o ls (prop at p ∷ ts) = at_prop at p o (λ changed. walk changed ls ts)
walk o [] (end_node at ∷ ts) = finished (as_node o) ts
walk o (parent ∷ ls) (end_node at ∷ ts) = walk (close o parent) ls ts
walk o ls (last at ∷ ts) = Err (BadNesting, at)
walk o ls (stray at fault ∷ ts) = Err (fault, at)

-- before the root
unfoldable pub begun : List Token → Result Siblings Fault
begun [] = Err (BadNesting, 0)
begun (nop at ∷ ts) = begun ts
begun (begin_node at (Ok name) ∷ ts) = walk (opened at name [] none) [] ts
begun (begin_node at (Err fault) ∷ ts) = Err (fault, at)
begun (end_node at ∷ ts) = Err (BadNesting, at)
begun (prop at p ∷ ts) = Err (BadNesting, at)
begun (last at ∷ ts) = Err (BadNesting, at)
begun (stray at fault ∷ ts) = Err (fault, at)
