-- What the steps return that read the table of sizes of a legacy image.
use Rattle.std.specs.Prelude.{ℕ, ◌+◌, ◌*◌, List, length, nat_lt, if◌then◌else◌, Option, Some, None}
use Rattle.std.specs.Prelude.{Result, Ok, Err}
use Rattle.uimg_texts.specs.Numbers.{be32}
use Rattle.uimg_legacy.specs.declared.fault.LegacyFault.{LegacyFault}

-- a word after the header, by its number, if the file has it
unfoldable pub word_at : List ℕ → ℕ → Option ℕ
word_at file number =
    if nat_lt (length file) (64 + 4 * number + 4) then None else Some (be32 file (64 + 4 * number))

-- the number of sizes of a table, if it has an end
abbrev pub count_in : Result (List ℕ) LegacyFault → Option ℕ
count_in (Ok sizes) = Some (length sizes)
count_in (Err fault) = None
