-- The bar of a row.
use Rattle.std.specs.Prelude.{ℕ, ◌+◌, ◌*◌, min, nat_lt, ◌&&◌, Bool}

-- Whether cell j of a bar is filled, for a range from an offset up to an end: the range has bytes
-- inside the file, and some of them are in the cell's part of the file, from size * j / cells up to
-- size * (j + 1) / cells.
unfoldable pub is_filled : ℕ → ℕ → ℕ → ℕ → ℕ → Bool
is_filled cells size place end j =
    nat_lt place (min end size)
    && (nat_lt (j * size) (min end size * cells) && nat_lt (place * cells) ((j + 1) * size))
