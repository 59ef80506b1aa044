-- The nodes that are not listed, but whose parents are.
use Rattle.std.specs.Prelude.{ℕ, ◌+◌, ◌*◌, nat_lt, List, length, Option, Some, None}
use Rattle.std.specs.{Prelude.{Bool, false, if◌then◌else◌}, List.slice_get}
use Rattle.std.specs.Int.{from_bool}
use Rattle.uimg_blob_reading.specs.Rows.{Row}
use Rattle.uimg_signing.specs.{Covering.is_marked, Sums.sum_from}

-- the row's offset is among those of the listed nodes
abbrev pub row_marked : List ℕ → Option Row → Bool
row_marked marks None = false
row_marked marks (Some row) = is_marked marks row.at

-- the parent's is
abbrev pub parent_marked : List ℕ → List Row → Option ℕ → Bool
parent_marked marks rows None = false
parent_marked marks rows (Some parent) = row_marked marks (slice_get rows parent)

-- the row is that of an unlisted child of a listed node
abbrev pub is_apart : List ℕ → List Row → Row → Bool
is_apart marks rows row =
    if is_marked marks row.at then false else parent_marked marks rows row.parent

-- how many are
abbrev pub count_apart : List ℕ → List Row → ℕ
count_apart marks rows = sum_from (λ i row. from_bool (is_apart marks rows row)) 0 rows

-- There may be too many of them beside n listed nodes. U-Boot (fit_config_check_sig) signs at most
-- 18 + 7 n regions. The tokens that are signed are one region, and a break makes one more. At most
-- four properties, those of the place of data, break a listed node without two properties of one
-- name; one break follows a listed node whose parent is not listed; and each unlisted child of a
-- listed node is one more break at most. This leaves 17 + 2 n of these children.
abbrev pub are_apart : List ℕ → List Row → Bool
are_apart marks rows = nat_lt (17 + 2 * length marks) (count_apart marks rows)
