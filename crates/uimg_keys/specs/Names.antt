-- What keys are called in messages.
use Rattle.std.specs.Prelude.{ℕ, ◌==◌, List, [], ◌∷◌, ◌++◌, codes, drop, flat_map, Bool, true, false, if◌then◌else◌}
use Rattle.std.specs.List.{starts_with}

-- the name of the key of a node: U-Boot calls it `key-` and the key's name
abbrev pub key_name : List ℕ → List ℕ
key_name name = if starts_with (λ a b. a == b) name (codes "key-") then drop 4 name else name

abbrev pub between : Bool → List ℕ
between true = codes " or "
between false = codes ", "

-- names, one after the other
unfoldable pub joined : Bool → List (List ℕ) → List ℕ
joined is_any [] = []
joined is_any (name ∷ names) = name ++ flat_map (λ other. between is_any ++ other) names
