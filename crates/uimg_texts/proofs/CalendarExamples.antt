-- Dates that calendars give, so that a wrong rule in the definition does not check.
use Rattle.std.proofs.Common.{◌≡◌, ℕ, refl}
use Rattle.uimg_texts.specs.Calendar.{Date, next_day, civil_date, weekday}

abbrev pub date : (year month day : ℕ) → Date
date year month day = record { year = year; month = month; day = day }

-- the first of March 1970, and the leap day of 1972
pub known_dates : (civil_date 0 ≡ date 1970 1 1) × (civil_date 59 ≡ date 1970 3 1) × (civil_date 365 ≡ date 1971 1 1) × (civil_date 789 ≡ date 1972 2 29)
unfolding civil_date
known_dates = (refl, refl, refl, refl)

-- 2000 and 2024 had a leap day, 2100 will have none
pub known_next_days : (next_day (date 2000 2 28) ≡ date 2000 2 29) × (next_day (date 2024 2 29) ≡ date 2024 3 1)
    × (next_day (date 2100 2 28) ≡ date 2100 3 1) × (next_day (date 2105 12 31) ≡ date 2106 1 1) × (next_day (date 2026 4 30) ≡ date 2026 5 1)
known_next_days = (refl, refl, refl, refl, refl)

-- 1 January 2000, day 10957, was a Saturday
pub known_weekdays : (weekday 0 ≡ 4) × (weekday 10957 ≡ 6)
known_weekdays = (refl, refl)
