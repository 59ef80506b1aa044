-- The numbers of a command line.
use Rattle.std.specs.Prelude.{ℕ, List, Option, ◌<◌, ◌^◌, SomeIff}
use Rattle.std.specs.Str.Parse.{IsNumeral, digits_value}

-- The number of one or more digits of a base; none for any other text, and if it needs more than 32
-- bits.
abbrev pub IsNumberOf : ℕ → List ℕ → Option ℕ → Type 0
IsNumberOf base text result =
    SomeIff result (IsNumeral base text × (digits_value base text < 2 ^ 32))
    (digits_value base text)
