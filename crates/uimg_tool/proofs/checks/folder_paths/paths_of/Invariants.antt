use Rattle.std.proofs.Common.{◌≡◌, ℕ, List, map, filter, vec_items}
use Rattle.std.specs.Io.Iter.{split_byte, split_known_bytes}
use Rattle.std.specs.{Borrow.Bor, Prelude.Some}
use Rattle.uimg_tool.specs.FolderPaths.{is_entry, path_in}
use Rattle.uimg_tool.proofs.PathLaws.{Left}
use Rattle.uimg_tool.proofs.checks.folder_paths.paths_of.Given as goal

-- the names so far have these paths
abbrev pub invariant-loop-name : goal.invariant-loop-name
invariant-loop-name l =
    let left = split_known_bytes (λ (b : Bor (List ℕ)). Some b.now) in
    (goal.iterator-loop-name).can_next l.name-iterator
    × (goal.iterator-loop-name).is_finite l.name-iterator
    × (split_byte l.name-iterator ≡ 0)
    × ((found : List (List ℕ)) × Left 0 (left l.initial.name-iterator) (left l.name-iterator) found
    × (map vec_items l.paths.items ≡ map (path_in l.folder) (filter is_entry found)))
