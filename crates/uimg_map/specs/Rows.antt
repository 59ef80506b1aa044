-- The rows of the map of a file: its things, and the bytes in no thing.
use Rattle.std.specs.Prelude.{ℕ, List, [], ◌∷◌, ◌++◌, min, nat_lt, if◌then◌else◌, Option, Some}
use Rattle.std.specs.Prelude.{None}
use Rattle.uimg_map.specs.declared.{thing.Thing.Thing, row.Row.Row}
use Rattle.uimg_map.specs.declared.row.Row.TheVariants.{Taken, Gap, Rest}

-- where a thing ends; without one, the file's start
abbrev pub thing_end : Option Thing → ℕ
thing_end None = 0
thing_end (Some t) = t.end

-- the one that ends later; the earlier one if both end at the same offset
abbrev pub further : Option Thing → Thing → Option Thing
further last t = if nat_lt (thing_end last) t.end then Some t else last

-- The thing that ends last, if another one, which begins no earlier, shares bytes with it; a thing
-- without bytes overlaps nothing.
unfoldable pub overlapped : Option Thing → Thing → Option Thing
overlapped last t = if nat_lt t.place (min (thing_end last) t.end) then last else None

-- the bytes from an end up to an offset, if there are any, before a thing
unfoldable pub gap : ℕ → ℕ → List Row
gap end place = if nat_lt end place then Gap end place ∷ [] else []

-- the bytes from an end up to the file's end, if there are any
unfoldable pub rest : ℕ → ℕ → List Row
rest size end = if nat_lt end size then Rest end size ∷ [] else []

-- the rows of a thing after others: the bytes before it, as far as the file has them, and its own
abbrev pub rows_of_thing : ℕ → Option Thing → Thing → List Row
rows_of_thing size last t =
    gap (thing_end last) (min t.place size) ++ Taken t (overlapped last t) ∷ []

-- The rows of things in order, in a file of `size` bytes, after others of which `last` ends last.
abbrev pub rows_from : ℕ → Option Thing → List Thing → List Row
rows_from size last [] = rest size (thing_end last)
rows_from size last (t ∷ ts) = rows_of_thing size last t ++ rows_from size (further last t) ts

-- the things of rows
abbrev pub thing_of : Row → List Thing
thing_of (Taken t over) = t ∷ []
thing_of (Gap place end) = []
thing_of (Rest place end) = []

abbrev pub things_in : List Row → List Thing
things_in [] = []
things_in (r ∷ rs) = thing_of r ++ things_in rs
