-- Names of nodes and of properties.
use Rattle.std.specs.Prelude.{◌≡◌, ◌||◌, ◌==◌, ℕ, List, [], ◌∷◌, Bool, Option, Some, None, Vec}
use Rattle.std.specs.Prelude.{if◌then◌else◌}
use Rattle.std.specs.List.{list_any}
use Rattle.std.specs.Str.{bytes_eq}
use Rattle.std.specs.BTreeSet.{BTreeSet}

-- whether a name has an `@`, which begins a unit address (Devicetree Specification, section 2.2.1)
abbrev pub has_at : List ℕ → Bool
has_at name = list_any (λ c. c == 0x40) name

-- the first of these names that is one of the names before it
unfoldable pub again_after : List (List ℕ) → List (List ℕ) → Option (List ℕ)
again_after before [] = None
again_after before (name ∷ more) =
    if list_any (bytes_eq name) before then Some name else again_after (name ∷ before) more

-- the first name that comes again
abbrev pub again : List (List ℕ) → Option (List ℕ)
again names = again_after [] names

-- whether a name is in a list
abbrev pub has_name : List ℕ → List (List ℕ) → Bool
has_name name names = list_any (bytes_eq name) names

-- whether a set has a name
abbrev pub in_set : {Z : Type 0} → BTreeSet (Vec ℕ Z) → List ℕ → Bool
in_set names name = list_any (λ known. bytes_eq name known.items) names.keys

-- A set has exactly the names of a list.
abbrev pub HasNames : {Z : Type 0} → BTreeSet (Vec ℕ Z) → List (List ℕ) → Type 0
HasNames names list = (name : List ℕ) → in_set names name ≡ list_any (bytes_eq name) list

-- A name was added to a set.
abbrev pub AddsName : {Z W : Type 0} → List ℕ → BTreeSet (Vec ℕ Z) → BTreeSet (Vec ℕ W) → Type 0
AddsName added old new =
    (name : List ℕ) → in_set new name ≡ (bytes_eq name added || in_set old name)
