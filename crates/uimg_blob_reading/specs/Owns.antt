-- The properties of a node, from the tokens after its name (Devicetree Specification, section 5.4).
use Rattle.std.specs.Prelude.{◌≡◌, ℕ, ◌≤◌, List, [], ◌∷◌, Option, Some, None, Ok, Err}
use Rattle.std.specs.{List.count_by, Option.option_map}
use Rattle.uimg_blob_reading.specs.Tokens.{Property, Token, Blocks, begin_node, end_node, prop, nop}
use Rattle.uimg_blob_reading.specs.{Tokens.{last, stray, tokens_from}, Counts.is_nop}

-- the properties at the start of the tokens, FDT_NOP skipped, up to a token that begins or ends a
-- node; none if another token comes first
unfoldable pub own_of : List Token → Option (List Property)
own_of [] = None
own_of (prop at (Ok p) ∷ ts) = option_map (λ more. p ∷ more) (own_of ts)
own_of (prop at (Err fault) ∷ ts) = None
own_of (nop at ∷ ts) = own_of ts
own_of (begin_node at name ∷ ts) = Some []
own_of (end_node at ∷ ts) = Some []
own_of (last at ∷ ts) = None
own_of (stray at fault ∷ ts) = None

-- These properties follow from an offset on, with at most `nops` FDT_NOP.
pub record LeftFrom (b : Blocks) (at : ℕ) (own : List Property) (nops : ℕ) : Type 0 where
  pub fuel : ℕ
  pub is : own_of (tokens_from fuel b (Some at)) ≡ Some own
  pub few : count_by is_nop (tokens_from fuel b (Some at)) ≤ nops
