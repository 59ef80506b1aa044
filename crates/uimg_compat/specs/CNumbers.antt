-- Numbers as strtoull and strtol of the GNU C library read them.
use Rattle.std.specs.Prelude.{ℕ, ◌-◌, ◌<◌, ◌^◌, ◌%◌, ◌==◌, ◌&&◌, Bool, true, false, [], ◌∷◌, length, nat_lt, Option, Some, None, is_some, unwrap_or, option_map, SomeIff, if◌then◌else◌}
use Rattle.std.specs.{Char.digit_value, List.list_all, Str.Parse.{IsNumeral, digits_value}}
use Rattle.uimg_compat.specs.Getopt.{Text, behind}

-- isspace: a space, and the codes from 9 to 13
abbrev pub is_blank : ℕ → Bool
is_blank code = if code == 32 then true else (if nat_lt code 9 then false else nat_lt code 14)

abbrev pub behind_blank : Text → Option Text
behind_blank [] = None
behind_blank (code ∷ rest) = if is_blank code then Some rest else None

abbrev pub without_blanks : Text → Text
without_blanks [] = []
without_blanks (code ∷ rest) = if is_blank code then without_blanks rest else code ∷ rest

-- a text without the `-` or `+` that it begins with
abbrev pub without_sign : Text → Text
without_sign text = unwrap_or (behind 45 text) (unwrap_or (behind 43 text) text)

-- what follows a `0` and an `x` or `X`
abbrev pub behind_mark : Text → Text
behind_mark text = elim (behind 48 text) [
  | None ↦ []
  | Some rest ↦ unwrap_or (behind 120 rest) (unwrap_or (behind 88 rest) [])
]

-- In base 16 the digits may follow `0x` or `0X`.
abbrev pub without_mark : ℕ → Text → Text
without_mark base text = if base == 16 && nat_lt 0 (length (behind_mark text)) then behind_mark
    text else text

-- one or more digits of a base
abbrev pub is_numeral : ℕ → Text → Bool
is_numeral base text = if nat_lt 0 (length text) then list_all
    (λ digit. nat_lt (digit_value digit) base) text else false

-- the number that digits write, if it has 64 bits
abbrev pub in_64_bits : ℕ → Text → Option ℕ
in_64_bits base digits =
    if nat_lt (digits_value base digits) 18446744073709551616 then Some (digits_value base digits)
    else None

-- the same as a fact
abbrev pub IsIn64Bits : ℕ → Text → Option ℕ → Type 0
IsIn64Bits base digits result =
    SomeIff result (IsNumeral base digits × (digits_value base digits < 2 ^ 64))
    (digits_value base digits)

-- a number counted from 2^64 down
abbrev pub opposite : ℕ → ℕ
opposite number = if number == 0 then 0 else 18446744073709551616 - number

-- A number of more than 64 bits is the largest of 64 bits, also behind a `-`.
abbrev pub signed : Bool → Option ℕ → ℕ
signed is_negative None = 18446744073709551615
signed true (Some number) = opposite number
signed false (Some number) = number

abbrev pub number_of_digits : ℕ → Bool → Text → Option ℕ
number_of_digits base is_negative digits = if is_numeral base digits
    then Some (signed is_negative (in_64_bits base digits)) else None

-- The number of a whole text: blanks, a sign, in base 16 a mark, and digits. An empty text is 0.
abbrev pub unsigned_long : ℕ → Text → Option ℕ
unsigned_long base text = if nat_lt 0 (length text) then number_of_digits base
    (is_some (behind 45 (without_blanks text)))
    (without_mark base (without_sign (without_blanks text))) else Some 0

-- its low 32 bits
abbrev pub low_32 : ℕ → Text → Option ℕ
low_32 base text = option_map (λ number. number % 4294967296) (unsigned_long base text)

-- the decimal digits that a text begins with
abbrev pub leading_digits : Text → Text
leading_digits [] = []
leading_digits (code ∷ rest) =
    if nat_lt (digit_value code) 10 then code ∷ leading_digits rest else []

-- The most seconds before and after 1970 that gmtime has a year of 32 bits for.
abbrev pub most : Bool → ℕ
most true = 67768040609740800
most false = 67768036191676799

-- the low 32 bits of a number, or of what it is below 0
abbrev pub low_of : Bool → ℕ → ℕ
low_of false number = number % 4294967296
low_of true number =
    if number % 4294967296 == 0 then 0 else 4294967296 - number % 4294967296

abbrev pub seconds : Bool → ℕ → Option ℕ
seconds is_negative number =
    if nat_lt (most is_negative) number then None else Some (low_of is_negative number)

-- a number unless it is more than these
abbrev pub at_most : ℕ → ℕ → Option ℕ
at_most bound number = if nat_lt bound number then None else Some number

-- The number that a text begins with: blanks, a sign and digits. Without a digit it is 0. What
-- follows is left out.
abbrev pub long_prefix : Text → Option ℕ
long_prefix text = seconds (is_some (behind 45 (without_blanks text)))
    (digits_value 10 (leading_digits (without_sign (without_blanks text))))

-- the base in which strtol reads a number in base 0
abbrev pub base_of : Text → ℕ
base_of digits = if nat_lt 0 (length (behind_mark digits)) then 16
    else (if is_some (behind 48 digits) then 8 else 10)

-- the number of a whole text as strtol reads it in base 0, if it is an int from 0 on
abbrev pub up_to_int : Option ℕ → Option ℕ
up_to_int None = None
up_to_int (Some number) = if nat_lt 2147483647 number then None else Some number

abbrev pub c_int : Text → Option ℕ
c_int text = up_to_int (unsigned_long (base_of (without_sign (without_blanks text))) text)
