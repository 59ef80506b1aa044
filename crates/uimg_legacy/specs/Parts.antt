-- The parts of types multi and script: a table of sizes that ends with a zero word, then the parts.
use Rattle.std.specs.Prelude.{ℕ, ◌+◌, ◌*◌, List, length, take, slice_index, sum_by, nat_lt, ◌==◌}
use Rattle.std.specs.Prelude.{◌||◌, if◌then◌else◌, Result, Ok, Err, Bool}
use Rattle.std.specs.List.{before_first, list_any}
use Rattle.uimg_legacy.specs.declared.fault.LegacyFault.{LegacyFault, TheVariants.NoTableEnd}
use Rattle.uimg_legacy.specs.Words.{whole_words}
use Rattle.uimg_texts.specs.Numbers.{up4}

-- whether an image of this type has parts: multi (4) and script (6) do
unfoldable pub has_parts : ℕ → Bool
has_parts kind = kind == 4 || kind == 6

-- the words of the data before the first zero word, or all if none is zero
unfoldable pub sizes : List ℕ → List ℕ
sizes payload = before_first (λ w. w == 0) (whole_words payload)

-- the sizes of the parts, if their table ends with a zero word
unfoldable pub part_sizes : List ℕ → Result (List ℕ) LegacyFault
part_sizes payload =
    if list_any (λ w. w == 0) (whole_words payload) then Ok (sizes payload) else Err NoTableEnd

-- Part i starts after the table, its zero word and the earlier parts, each rounded up to 4 bytes.
unfoldable pub start : List ℕ → ℕ → ℕ
start table i = 4 * (length table + 1) + sum_by up4 (take i table)

-- part i ends after the data
unfoldable pub is_outside : List ℕ → List ℕ → ℕ → Bool
is_outside payload table i = nat_lt (length payload) (start table i + slice_index table i)
