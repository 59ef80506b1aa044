-- How the rows of a map follow from the things in a file.
use Rattle.std.specs.Prelude.{◌≡◌, ◌≤◌, ◌<◌, ℕ, ◌+◌, ◌*◌, List, length, true, false, None}
use Rattle.std.specs.List.{list_any, Sorted.IsPermutation}
use Rattle.uimg_map.specs.{declared.{thing.Thing.Thing, row.Row.Row}, Rows.{rows_from, things_in}}
use Rattle.uimg_map.specs.{Order.InOrder, Cover.{is_in_row, has_free, contains}}

-- these are the rows of these things in a file of `size` bytes
pub record Arranges (size : ℕ) (things : List Thing) (rows : List Row) : Type 0 where
  -- each thing has its row, and each row with a thing has one of these
  pub same : IsPermutation things (things_in rows)
  -- by offset, end and number
  pub sorted : InOrder (things_in rows)
  -- the rows follow from the sorted things
  pub told : rows ≡ rows_from size None (things_in rows)
  -- at most two rows a thing, and one more
  pub count : length rows ≤ 2 * length things + 1
  -- each byte of the file is in a row; a row without a thing has bytes of the file in no thing
  pub covered : (i : ℕ) → i < size → list_any (is_in_row i) rows ≡ true
  pub free : (i : ℕ) → list_any (has_free i) rows ≡ true
      → (i < size) × (list_any (contains i) things ≡ false)
