-- Sums over the rows of a table.
use Rattle.std.specs.Prelude.{ℕ, ◌+◌, List, [], ◌∷◌}
use Rattle.uimg_blob_reading.specs.Rows.{Row}

-- the sum of f over rows that are numbered from i on
unfoldable pub sum_from : (ℕ → Row → ℕ) → ℕ → List Row → ℕ
sum_from f i [] = 0
sum_from f i (row ∷ rows) = f i row + sum_from f (i + 1) rows
