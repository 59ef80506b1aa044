-- Why the walk over the tokens refuses one of them.
use Rattle.std.specs.Prelude.{◌≡◌, ℕ, ◌+◌, ◌-◌, ◌⊎◌, List, [], ◌∷◌, Option, Some, None, Bool, true, ◌&&◌, not}
use Rattle.std.specs.Prelude.{if◌then◌else◌, nat_lt}
use Rattle.uimg_texts.specs.{Nul.before_nul, Slices.slice, Numbers.be32}
use Rattle.uimg_blob_reading.specs.Tokens.{Token, Blocks, offset, token_at}
use Rattle.uimg_signing.specs.declared.faults.SigningFault.{SigningFault}
use Rattle.uimg_signing.specs.declared.faults.SigningFault.TheVariants.{Read, Changed, TooDeep, EarlyEnd}
use Rattle.uimg_signing.specs.declared.faults.SigningFault.TheVariants.{NameUnsigned}
use Rattle.uimg_signing.specs.{Covering.{Placed, placed_in, in_nodes, covers, begins_deep}, Going.IsBad}
use Rattle.uimg_signing.specs.Turning.{is_property, ends_early}

-- all these bytes of strings, if there is a NUL at their end; else none
abbrev pub names_by : Option (List ℕ) → ℕ → ℕ
names_by None strings = 0
names_by (Some text) strings = strings

-- how many of the first `strings` bytes of the strings block hold whole names
abbrev pub names_size : List ℕ → ℕ → ℕ → ℕ
names_size file start strings =
    if nat_lt 0 strings then names_by (before_nul (slice file (start + strings - 1) 1)) strings else 0

-- The token at an offset has a name that begins in so many bytes of strings, if it is a property. The
-- third word of a property is the offset of its name (Devicetree Specification, section 5.4.1).
abbrev pub is_named : Bool → List ℕ → ℕ → ℕ → Bool
is_named property file at names = if property then nat_lt (be32 file (at + 8)) names else true

-- the token is signed, but its name is not
abbrev pub is_unsigned : (ℕ → Bool) → List ℕ → ℕ → Placed → Bool
is_unsigned listed file names p = covers listed p.nodes p.token
    && not (is_named (is_property p.token) file (offset p.token) names)

-- why a token is refused: it begins a node that is in 32 others, it is FDT_END and its block does not
-- end with it, or its name is not signed
abbrev pub token_refusal : (ℕ → Bool) → Blocks → ℕ → Placed → Option SigningFault
token_refusal listed b names p =
    if begins_deep p then Some TooDeep else if ends_early b.structure_end p.token then Some EarlyEnd
    else if is_unsigned listed b.bytes names p then Some NameUnsigned else None

-- the first, or else the second
abbrev pub or_else : Option SigningFault → Option SigningFault → Option SigningFault
or_else (Some fault) other = Some fault
or_else None other = other

-- why the first of these tokens is refused that is
unfoldable pub first_refusal : (Placed → Option SigningFault) → List Placed → Option SigningFault
first_refusal refusal [] = None
first_refusal refusal (p ∷ ps) = or_else (refusal p) (first_refusal refusal ps)

-- the same of tokens with these nodes open before them
abbrev pub walk_refusal : (ℕ → Bool) → Blocks → ℕ → List ℕ → List Token → Option SigningFault
walk_refusal listed b names nodes ts = first_refusal (token_refusal listed b names) (in_nodes nodes ts)

-- Why the step over the token at an offset fails, with these nodes open before it.
abbrev pub RefusesToken : (ℕ → Bool) → Blocks → ℕ → List ℕ → ℕ → SigningFault → Type 0
RefusesToken listed b names nodes at fault =
    (fault ≡ Read) ⊎ (((fault ≡ Changed) × IsBad b nodes at (token_at b at))
    ⊎ (token_refusal listed b names (placed_in nodes (token_at b at)) ≡ Some fault))
