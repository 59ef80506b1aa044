-- Numbers as digits.
use Rattle.std.specs.Prelude.{ℕ, ◌+◌, ◌*◌, ◌^◌, List, Option, Some, None, nat_lt, ◌&&◌}
use Rattle.std.specs.{Prelude.if◌then◌else◌, List.list_all, Char.{is_digit, digit_value}}
use Rattle.std.specs.Str.Parse.{digits_value}
use Rattle.uimg_its.specs.Options.{◌>>=◌}

-- The number with these digits in a base, highest first, if all are digits and it fits in 32 bits.
unfoldable pub number_in_base : ℕ → List ℕ → Option ℕ
number_in_base base ds =
    if list_all (λ d. is_digit d base) ds
    && nat_lt (digits_value base ds) (2 ^ 32) then Some (digits_value base ds) else None

-- a hexadecimal digit: 0 to 9, a to f, A to F
abbrev pub hex_digit : ℕ → Option ℕ
hex_digit b = if is_digit b 16 then Some (digit_value b) else None

-- the byte of two hexadecimal digits
abbrev pub hex_pair : ℕ → ℕ → Option ℕ
hex_pair a b = do
  high ← hex_digit a
  low ← hex_digit b
  Some (high * 16 + low)
