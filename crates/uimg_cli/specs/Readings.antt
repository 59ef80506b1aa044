-- What the texts of options say.
use Rattle.std.specs.Prelude.{ℕ, SomeIff, ◌<◌, ◌^◌, ◌∷◌, ◌&&◌, Bool, false, List, [], Option, Some, None, Result, Ok, Err, codes, length, nat_lt, if◌then◌else◌, unwrap_or, ◌==◌}
use Rattle.std.specs.Char.{digit_value}
use Rattle.std.specs.List.{list_all}
use Rattle.std.specs.Option.{option_map_or}
use Rattle.std.specs.Str.{bytes_eq}
use Rattle.std.specs.Str.Parse.{IsNumeral, digits_value}
use Rattle.clap.specs.Matches.{found_of}
use Rattle.clap.specs.Walk.{Row, Text, all_of, first_of, rows_of}
use Rattle.clap.specs.declared.parser.matches.ArgMatches.{ArgMatches}
use Rattle.uimg_cli.specs.Wrong.{Wrong}

-- what the words gave for each argument
abbrev pub given : ArgMatches → List Row
given matches = rows_of (found_of matches)

-- whether an option without a value was given
abbrev pub is_set : Text → List Row → Bool
is_set id rows =
    option_map_or (λ text. bytes_eq text (codes "true")) (first_of id rows) false

-- `-` would be standard output
abbrev pub is_output : Option Text → Bool
is_output path = option_map_or (λ text. bytes_eq text (codes "-")) path false

-- the text of an option or operand, or another one if it was not given
abbrev pub text_or : Text → List Row → Text → Text
text_or id rows default = unwrap_or (first_of id rows) default

-- all values of an operand
abbrev pub texts_given : Text → List Row → List Text
texts_given id rows = unwrap_or (all_of id rows) []

-- The number that one or more digits of a base write; none for any other text, and if it is not
-- below the limit.
abbrev pub number_below : ℕ → ℕ → Text → Option ℕ
number_below limit base text = if nat_lt 0 (length text)
    && (list_all (λ digit. nat_lt (digit_value digit) base) text
    && nat_lt (digits_value base text) limit) then Some (digits_value base text) else None

-- a number of 32 bits
abbrev pub number_of : ℕ → Text → Option ℕ
number_of base text = number_below 4294967296 base text

-- a decimal number of 64 bits
abbrev pub count_of : Text → Option ℕ
count_of text = number_below 18446744073709551616 10 text

-- the same as a fact
abbrev pub IsCount : Text → Option ℕ → Type 0
IsCount text result = SomeIff result (IsNumeral 10 text × (digits_value 10 text < 2 ^ 64))
    (digits_value 10 text)

-- a decimal number of 32 bits
abbrev pub decimal_of : Text → Option ℕ
decimal_of text = number_of 10 text

-- the digits after `0x` (48, 120), if the text begins so
abbrev pub unmarked : Text → Text
unmarked (a ∷ b ∷ rest) = if a == 48 && b == 120 then rest else a ∷ b ∷ rest
unmarked text = text

-- a hexadecimal number of 32 bits
abbrev pub hexadecimal_of : Text → Option ℕ
hexadecimal_of text = number_of 16 (unmarked text)

-- the value, or what is wrong without one
abbrev pub or_wrong : {X : Type 0} → Wrong → Option X → Result X Wrong
or_wrong wrong None = Err wrong
or_wrong wrong (Some value) = Ok value
