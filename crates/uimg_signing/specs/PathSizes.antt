-- How many bytes the path of a node has.
use Rattle.std.specs.Prelude.{ℕ, zero, suc, ◌+◌, List, length, Option, Some, None}
use Rattle.std.specs.List.{slice_get}
use Rattle.uimg_blob_reading.specs.Rows.{Row}

-- a node's name and a slash, and what is around the node; nothing where there is none
abbrev pub step_size : Option Row → (Option ℕ → ℕ) → ℕ
step_size None around = 0
step_size (Some row) around = 1 + length row.name + around row.parent

-- the same of a node and at most so many around it, less one
unfoldable pub climb_size : ℕ → List Row → Option ℕ → ℕ
climb_size zero rows from = 0
climb_size (suc n) rows None = 0
climb_size (suc n) rows (Some number) = step_size (slice_get rows number) (climb_size n rows)

-- how many bytes the path of the node of this number has, with its NUL: each name with its slash, the
-- root's empty name with the NUL; of at most 200 nodes
abbrev pub path_size : List Row → ℕ → ℕ
path_size rows number = climb_size 200 rows (Some number)
