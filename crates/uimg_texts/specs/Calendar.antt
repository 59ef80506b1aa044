-- The Gregorian calendar of ISO 8601, day by day.
use Rattle.std.specs.Prelude.{ℕ, zero, suc, ◌+◌, ◌%◌, Bool, not, ◌&&◌, ◌||◌, ◌==◌, nat_lt}
use Rattle.std.specs.Prelude.{if◌then◌else◌}

pub record Date : Type 0 where
  pub year : ℕ
  pub month : ℕ
  pub day : ℕ

-- every fourth year, except centuries that are not divisible by 400
abbrev pub is_leap_year : ℕ → Bool
is_leap_year y = (y % 4 == 0) && (not (y % 100 == 0) || (y % 400 == 0))

-- days in a month: February 28, or 29 in leap years; April, June, September, November 30; others 31
abbrev pub month_length : ℕ → ℕ → ℕ
month_length y m =
    if m == 2 then (if is_leap_year y then 29 else 28)
    else (if (m == 4) || (m == 6) || (m == 9) || (m == 11) then 30 else 31)

-- the next day: in the same month, or the first of the next month, or 1 January of the next year
abbrev pub next_day : Date → Date
next_day d =
    if nat_lt d.day (month_length d.year d.month) then record d { day = suc d.day }
    else (if nat_lt d.month 12 then record { year = d.year; month = suc d.month; day = 1 }
    else record { year = suc d.year; month = 1; day = 1 })

-- the date that many days after 1 January 1970
unfoldable pub civil_date : ℕ → Date
civil_date zero = record { year = 1970; month = 1; day = 1 }
civil_date (suc n) = next_day (civil_date n)

-- the day of the week that many days after 1 January 1970, a Thursday; 0 is Sunday
abbrev pub weekday : ℕ → ℕ
weekday n = (n + 4) % 7
