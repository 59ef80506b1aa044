-- Whether U-Boot's walk over the tokens takes the names and paths of a tree (fdt_find_regions).
use Rattle.std.specs.Prelude.{ℕ, ◌+◌, ◌-◌, ◌==◌, List, [], ◌∷◌, Bool, true, false, not, nat_lt, if◌then◌else◌}
use Rattle.std.specs.List.{list_any}
use Rattle.uimg_texts.specs.{Numbers.be32, Slices.slice}
use Rattle.uimg_blob_reading.specs.Rows.{Row}
use Rattle.uimg_signing.specs.{Listing.name_in, PathSizes.path_size}

-- a name has at least one byte and no slash: with its parent's path it is a path of one node only
abbrev pub is_name : List ℕ → Bool
is_name [] = false
is_name (byte ∷ bytes) = not (list_any (λ b. b == 47) (byte ∷ bytes))

-- the walk surely takes the node of this number; the root is the first. It keeps a path in 200 bytes,
-- of which a node below the root's children may fill one more.
abbrev pub takes : List ℕ → List Row → ℕ → Row → Bool
takes file rows number row =
    if number == 0 then true
    else if nat_lt 198 (path_size rows number) then false
    else is_name (name_in file row)

-- it takes rows that are numbered from i on
unfoldable pub takes_from : List ℕ → List Row → ℕ → List Row → Bool
takes_from file all i [] = true
takes_from file all i (row ∷ rows) =
    if takes file all i row then takes_from file all (i + 1) rows else false

-- the walk takes each node
abbrev pub is_reached : List ℕ → List Row → Bool
is_reached file rows = takes_from file rows 0 rows

-- FDT_END_NODE is the last word but one of the structure block
abbrev pub closes_at : List ℕ → ℕ → Bool
closes_at file block_end =
    if nat_lt block_end 8 then false else be32 (slice file (block_end - 8) 4) 0 == 2

abbrev pub is_closed : List ℕ → Bool
is_closed file = closes_at file (be32 file 8 + be32 file 36)
