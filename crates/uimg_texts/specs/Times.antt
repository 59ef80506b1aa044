-- Times in seconds since 1 January 1970, 00:00:00 UTC as texts.
use Rattle.std.specs.Prelude.{ℕ, ◌+◌, ◌-◌, ◌/◌, ◌%◌, nat_lt, if◌then◌else◌, List, [], ◌∷◌, ◌++◌}
use Rattle.std.specs.Prelude.{slice_index_or, codes}
use Rattle.uimg_texts.specs.{Digits.two_digits, Calendar.{civil_date, weekday}}

-- 0 is Sunday
abbrev pub weekday_name : ℕ → List ℕ
weekday_name w =
    slice_index_or (codes "Sun" ∷ codes "Mon" ∷ codes "Tue" ∷ codes "Wed" ∷ codes "Thu"
    ∷ codes "Fri" ∷ codes "Sat" ∷ []) w []

-- 1 is January
abbrev pub month_name : ℕ → List ℕ
month_name m =
    slice_index_or
    (codes "Jan" ∷ codes "Feb" ∷ codes "Mar" ∷ codes "Apr" ∷ codes "May" ∷ codes "Jun"
    ∷ codes "Jul" ∷ codes "Aug" ∷ codes "Sep" ∷ codes "Oct" ∷ codes "Nov" ∷ codes "Dec"
    ∷ []) (m - 1) []

-- a day of the month in two places, with a leading space below 10
abbrev pub day_text : ℕ → List ℕ
day_text d = if nat_lt d 10 then codes " " ++ (48 + d) ∷ [] else two_digits d

-- `hh:mm:ss`
abbrev pub clock_text : ℕ → ℕ → ℕ → List ℕ
clock_text hour minute second =
    two_digits hour ++ codes ":" ++ two_digits minute ++ codes ":" ++ two_digits second

-- four digits
abbrev pub year_text : ℕ → List ℕ
year_text y = two_digits (y / 100) ++ two_digits (y % 100)

-- `Www Mmm dd hh:mm:ss yyyy`
abbrev pub moment_text : (year month day weekday hour minute second : ℕ) → List ℕ
moment_text year month day weekday hour minute second =
    weekday_name weekday ++ codes " " ++ month_name month ++ codes " " ++ day_text day ++ codes " "
    ++ clock_text hour minute second ++ codes " " ++ year_text year

-- A time as text: the day's date and weekday, and the rest as hours, minutes and seconds. Each day
-- has 86400 seconds: leap seconds do not count (POSIX, "Seconds Since the Epoch").
unfoldable pub time_text : ℕ → List ℕ
time_text s =
    let date = civil_date (s / 86400) in
    moment_text date.year date.month date.day (weekday (s / 86400)) (s % 86400 / 3600)
    (s % 3600 / 60) (s % 60)
