-- Which files a source text includes, and which of them were opened.
use Rattle.std.specs.Prelude.{◌≡◌, ◌≤◌, ℕ, List, [], ◌∷◌, ◌++◌, length, take, reverse, codes}
use Rattle.std.specs.{Prelude.{Result, IfOk, if◌then◌else◌}, Str.bytes_eq}
use Rattle.uimg_base.specs.{Lent.Lent, Named.FileMap}
use Rattle.uimg_its.specs.declared.{stop.Stop.Stop, tokens.Mark.TheVariants.ParenOpen}
use Rattle.uimg_its.specs.Words.{Word, directive, text, mark}

-- the string after an opening parenthesis
abbrev pub parenthesized : List Word → List (List ℕ)
parenthesized (mark ParenOpen ∷ text n ∷ ws) = n ∷ []
parenthesized ws = []

-- the file that a word includes, from the words after it: /incbin/ the string in parentheses
abbrev pub included_at : Word → List Word → List (List ℕ)
included_at (directive d) ws = if bytes_eq d (codes "incbin") then parenthesized ws else []
included_at w ws = []

-- The names of the files that words include, in order.
abbrev pub included : List Word → List (List ℕ)
included [] = []
included (w ∷ ws) = included_at w ws ++ included ws

-- the names that were opened before, in order, and then further names
unfoldable pub opened_then : FileMap → List (List ℕ) → List (List ℕ)
opened_then m names = reverse m.opened ++ names

-- as many first ones of these names as were opened
unfoldable pub as_many : FileMap → List (List ℕ) → List (List ℕ)
as_many m names = take (length m.opened) names

-- Of the files that words include, exactly those before the words that are left were opened, in
-- order; if the call failed, exactly the first ones.
pub record OpensIncludedBetween {X : Type 0} (left : X → List Word) (result : Result X Stop)
    (ws : List Word) (old new : FileMap) : Type 0 where
  pub along : IfOk result (λ x. opened_then new (included (left x)) ≡ opened_then old (included ws))
  pub first : as_many new (opened_then old (included ws)) ≡ reverse new.opened
  pub grown : length old.opened ≤ length new.opened

abbrev pub OpensIncluded : {F X : Type 0} → (F → FileMap) → (X → List Word) → Result X Stop
    → Lent F → List Word → Type 0
OpensIncluded map left result files ws =
    OpensIncludedBetween left result ws (map files.entry.now) (map files.exit.now)
