-- Sizes in bytes as texts, rounded half to even (IEEE 754, section 4.3.1).
use Rattle.std.specs.Prelude.{ℕ, zero, suc, ◌+◌, ◌-◌, ◌*◌, ◌/◌, ◌%◌, Bool, true, false, ◌&&◌, ◌||◌}
use Rattle.std.specs.Prelude.{◌==◌, nat_lt, List, ◌++◌, codes, decimal}
use Rattle.uimg_texts.specs.Digits.{two_digits}

-- the absolute difference of two numbers
abbrev pub distance : ℕ → ℕ → ℕ
distance a b = (a - b) + (b - a)

-- h hundredths are nearest to n / q: 2 * |100 * n - q * h| is at most q, and if equal, h is even
abbrev pub is_nearest : ℕ → ℕ → ℕ → Bool
is_nearest n q h =
    nat_lt (2 * distance (100 * n) (q * h)) q
    || ((2 * distance (100 * n) (q * h) == q) && (h % 2 == 0))

-- the first of a given count of numbers from h on that passes a test, or else the number after them
unfoldable pub first_from : (ℕ → Bool) → ℕ → ℕ → ℕ
first_from p zero h = h
first_from p (suc more) h = elim (p h) [ true ↦ h | false ↦ first_from p more (suc h) ]

-- n / q in hundredths, for q not 0: the least nearest number, which is at most 100 * n
unfoldable pub hundredths : ℕ → ℕ → ℕ
hundredths n q = first_from (is_nearest n q) (100 * n) 0

-- hundredths as a decimal: whole part, point and two digits
abbrev pub two_decimals : ℕ → List ℕ
two_decimals h = decimal (h / 100) ++ codes "." ++ two_digits (h % 100)

-- `<n> Bytes = <n / 1024> KiB = <n / 1048576> MiB`
unfoldable pub size_text : ℕ → List ℕ
size_text n =
    decimal n ++ codes " Bytes = " ++ two_decimals (hundredths n 1024) ++ codes " KiB = "
    ++ two_decimals (hundredths n 1048576) ++ codes " MiB"
