-- Which bytes are in a thing, and which in a row.
use Rattle.std.specs.Prelude.{ℕ, nat_le, nat_lt, ◌&&◌, Bool, false}
use Rattle.uimg_map.specs.declared.{thing.Thing.Thing, row.Row.Row}
use Rattle.uimg_map.specs.declared.row.Row.TheVariants.{Taken, Gap, Rest}

-- whether a byte is in the range from an offset up to an end
abbrev pub within : ℕ → ℕ → ℕ → Bool
within i place end = nat_le place i && nat_lt i end

-- whether the byte at an offset is in a thing
abbrev pub contains : ℕ → Thing → Bool
contains i t = within i t.place t.end

-- where a row begins and ends
abbrev pub place_of : Row → ℕ
place_of (Taken t over) = t.place
place_of (Gap place end) = place
place_of (Rest place end) = place

abbrev pub row_end : Row → ℕ
row_end (Taken t over) = t.end
row_end (Gap place end) = end
row_end (Rest place end) = end

-- whether it is in a row
abbrev pub is_in_row : ℕ → Row → Bool
is_in_row i (Taken t over) = contains i t
is_in_row i (Gap place end) = within i place end
is_in_row i (Rest place end) = within i place end

-- whether it is in a row without a thing
abbrev pub has_free : ℕ → Row → Bool
has_free i (Taken t over) = false
has_free i (Gap place end) = within i place end
has_free i (Rest place end) = within i place end
