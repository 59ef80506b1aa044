-- The numbers of options, and how many bytes of standard input are read.
use Rattle.std.specs.Prelude.{ℕ, List, Option, Some, None, Result, Ok, codes, unwrap_or}
use Rattle.clap.specs.Walk.{Row, Text, first_of}
use Rattle.uimg_cli.specs.Readings.{count_of, or_wrong}
use Rattle.uimg_cli.specs.Wrong.{Wrong, and_then, not_number}

-- a number of an option is decimal, below 2^64
abbrev pub count_by : Text → Option Text → Result (Option ℕ) Wrong
count_by id None = Ok None
count_by id (Some text) =
    and_then (or_wrong (not_number id text) (count_of text)) (λ count. Ok (Some count))

abbrev pub count_asked : Text → List Row → Result (Option ℕ) Wrong
count_asked id rows = count_by id (first_of id rows)

-- the most bytes of standard input: 4 GiB without an option
abbrev pub most_input_asked : List Row → Result ℕ Wrong
most_input_asked rows =
    and_then (count_asked (codes "max-input") rows) (λ most. Ok (unwrap_or most 4294967296))
