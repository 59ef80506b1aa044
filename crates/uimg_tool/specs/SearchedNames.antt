-- The names of files in sources: the folder of the file that names another, `/./`, and what it calls that.
use Rattle.std.specs.Prelude.{ℕ, List, [], ◌∷◌, ◌==◌, codes, drop, take, Option, Some, None, if◌then◌else◌}
use Rattle.std.specs.Cmp.Lexicographic.{pointwise}
use Rattle.std.specs.List.{list_any}

-- what follows `/./` at the start of a text
abbrev pub after_mark : List ℕ → Option (List ℕ)
after_mark text = if pointwise (λ a b. a == b) (take 3 text) (codes "/./") then Some (drop 3 text) else None

abbrev pub or_else : Option (List ℕ) → Option (List ℕ) → Option (List ℕ)
or_else (Some found) other = Some found
or_else None other = other

-- what follows the last `/./`
unfoldable pub own_in : List ℕ → Option (List ℕ)
own_in [] = None
own_in (byte ∷ rest) = or_else (own_in rest) (after_mark (byte ∷ rest))

-- that, or the whole name
abbrev pub or_own : Option (List ℕ) → List ℕ → List ℕ
or_own (Some own) name = own
or_own None name = name

-- a name up to its last slash
unfoldable pub folder_in : List ℕ → List ℕ
folder_in [] = []
folder_in (byte ∷ rest) = if list_any (λ b. b == 47) (byte ∷ rest) then byte ∷ folder_in rest else []
