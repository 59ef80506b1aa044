-- The names of files that were given, as a set.
use Rattle.std.specs.Prelude.{◌≡◌, ℕ, List, ◌∷◌, map, Bool, true, false, Vec}
use Rattle.std.specs.Char.{to_ascii_lowercase}
use Rattle.std.specs.Cmp.Lexicographic.{slice_cmp}
use Rattle.std.specs.Ordering.{nat_cmp}
use Rattle.std.specs.BTreeSet.{BTreeSet, contains_by}
use Rattle.uimg_unpacking.specs.FileNames.{is_among, is_file_name}

-- whether the set has a name, in lower or upper case
abbrev pub is_used : {Z : Type 0} → BTreeSet (Vec ℕ Z) → List ℕ → Bool
is_used names name = contains_by (λ known. slice_cmp nat_cmp (map to_ascii_lowercase name) known.items) names

-- It has these names, in lower case.
abbrev pub HasNames : {Z : Type 0} → BTreeSet (Vec ℕ Z) → List (List ℕ) → Type 0
HasNames set names = (name : List ℕ) → is_used set name ≡ is_among names name

-- This name was given, which is a file name and was free.
pub record Gives (wanted name : List ℕ) (old new : List (List ℕ)) : Type 0 where
  pub wanted_is : name ≡ wanted
  pub is_name : is_file_name name ≡ true
  pub is_free : is_among old name ≡ false
  pub given : new ≡ name ∷ old
