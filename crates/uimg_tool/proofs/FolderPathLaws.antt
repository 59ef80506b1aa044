-- The paths of what is in a folder.
use Rattle.std.proofs.Common.{◌≡◌, ℕ, suc, List, [], ◌∷◌, ◌++◌, map, filter, false, Vec, Global, vec_items, refl, ap, ap₂, sym, subst, ◌∙◌, arith, get_or, add-one, Option, Some, IfSome, IsPermutation, IsSorted}
use mathlib.Core.List.{map-append}
use Rattle.std.proofs.lemmas.List.Elements.{filter-append}
use Rattle.std.proofs.lemmas.List.Sorted.{IsPermutation-map}
use Rattle.std.specs.declared.cmp.Ordering.{Ordering}
use Rattle.std.specs.{Ordering.{is_lt, nat_cmp}, Cmp.Lexicographic.slice_cmp}
use Rattle.uimg_tool.specs.FolderPaths.{AreOrdered, ArePathsIn, is_entry, path_in, paths_by}
use Rattle.uimg_tool.specs.Paths.{is_name, paths_in}

-- an empty name is no entry
entries_of : (name : List ℕ) → filter is_entry (filter is_name (name ∷ [])) ≡ filter is_entry (name ∷ [])
entries_of [] = refl
entries_of (byte ∷ rest) = refl

-- the paths so far, and that of one more name
pub one_more : (folder name item : List ℕ) (found old new : List (List ℕ)) → name ≡ item → new ≡ old ++ map (path_in folder) (filter is_entry (name ∷ [])) → old ≡ map (path_in folder) (filter is_entry found)
    → new ≡ map (path_in folder) (filter is_entry (found ++ filter is_name (item ∷ [])))
one_more folder name item found old new is more before =
    more ∙ ap₂ (λ (a b : List (List ℕ)). a ++ b) before (ap (λ (n : List ℕ). map (path_in folder) (filter is_entry (n ∷ []))) is ∙ ap (map (path_in folder)) (sym (entries_of item)))
    ∙ sym (map-append (path_in folder) (filter is_entry found) (filter is_entry (filter is_name (item ∷ []))))
    ∙ ap (map (path_in folder)) (sym (filter-append is_entry found (filter is_name (item ∷ []))))

-- all were read
pub paths_found : (folder names : List ℕ) (known : Option (List ℕ)) (found paths : List (List ℕ)) → known ≡ Some names → IfSome known (λ file. found ≡ paths_in 0 file)
    → paths ≡ map (path_in folder) (filter is_entry found) → paths ≡ paths_by folder names
paths_found folder names known found paths is all so =
    so ∙ ap (λ (l : List (List ℕ)). map (path_in folder) (filter is_entry l)) (subst (λ (o : Option (List ℕ)). IfSome o (λ file. found ≡ paths_in 0 file)) is all)

abbrev vec_cmp : Vec ℕ Global → Vec ℕ Global → Ordering
vec_cmp x y = slice_cmp nat_cmp x.items y.items

rest_sorted : (x y : Vec ℕ Global) (rest : List (Vec ℕ Global)) → IsSorted vec_cmp (x ∷ y ∷ rest) → IsSorted vec_cmp (y ∷ rest)
rest_sorted x y rest h = λ k d low high.
    subst (λ (n : ℕ). is_lt (vec_cmp (get_or (y ∷ rest) n d) (get_or (y ∷ rest) k d)) ≡ false) (sym (add-one k))
    (subst (λ (n : ℕ). is_lt (vec_cmp (get_or (x ∷ y ∷ rest) n d) (get_or (y ∷ rest) k d)) ≡ false) (add-one (suc k)) (h (suc k) d (omega arith) (omega arith)))

pub are_ordered : (paths : List (Vec ℕ Global)) → IsSorted vec_cmp paths → AreOrdered (map vec_items paths)
are_ordered [] h = tt
are_ordered (x ∷ []) h = tt
are_ordered (x ∷ y ∷ rest) h = (h 0 x (omega arith) (omega arith), are_ordered (y ∷ rest) (rest_sorted x y rest h))

pub are_sorted : (folder names : List ℕ) (given sorted : List (Vec ℕ Global)) → map vec_items given ≡ paths_by folder names → IsPermutation given sorted → IsSorted vec_cmp sorted
    → ArePathsIn folder names (map vec_items sorted)
are_sorted folder names given sorted are same order = record {
  all = subst (λ (l : List (List ℕ)). IsPermutation l (map vec_items sorted)) are (IsPermutation-map vec_items given sorted same);
  ordered = are_ordered sorted order;
}
