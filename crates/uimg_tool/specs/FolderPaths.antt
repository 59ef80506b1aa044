-- The paths of what is in a folder, in order.
use Rattle.std.specs.Prelude.{◌≡◌, ◌==◌, ◌-◌, ℕ, nat_lt, ⊤, List, [], ◌∷◌, ◌++◌, map, length, slice_index, Bool, false, ◌&&◌, not, if◌then◌else◌, codes}
use Rattle.std.specs.{List.filter, List.Sorted.IsPermutation, Ordering.{is_lt, nat_cmp}, Str.bytes_eq, Cmp.Lexicographic.slice_cmp}
use Rattle.uimg_tool.specs.Paths.{is_name, paths_in}

abbrev pub ends_in_slash : List ℕ → Bool
ends_in_slash path = nat_lt 0 (length path) && slice_index path (length path - 1) == 47

-- the path of a name in a folder
abbrev pub path_in : List ℕ → List ℕ → List ℕ
path_in folder name = if ends_in_slash folder then folder ++ name else folder ++ 47 ∷ name

-- a name, but not that of the folder itself or of the one above
abbrev pub is_entry : List ℕ → Bool
is_entry name = is_name name && not (bytes_eq name (codes ".")) && not (bytes_eq name (codes ".."))

-- all paths in a folder, by its names, each with a NUL after it
abbrev pub paths_by : List ℕ → List ℕ → List (List ℕ)
paths_by folder names = map (path_in folder) (filter is_entry (paths_in 0 names))

-- no path is before the one before it, in the order of bytes
abbrev pub AreOrdered : List (List ℕ) → Type 0
AreOrdered [] = ⊤
AreOrdered (path ∷ []) = ⊤
AreOrdered (path ∷ next ∷ rest) =
    (is_lt (slice_cmp nat_cmp next path) ≡ false) × AreOrdered (next ∷ rest)

-- the paths in a folder, in the order of bytes
pub record ArePathsIn (folder names : List ℕ) (paths : List (List ℕ)) : Type 0 where
  pub all : IsPermutation (paths_by folder names) paths
  pub ordered : AreOrdered paths
