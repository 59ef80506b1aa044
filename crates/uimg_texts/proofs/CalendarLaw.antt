-- The date of a day number is the one that `jiff` gives.
use Rattle.std.proofs.Common.{◌≡◌, ◌≤◌, ◌<◌, ℕ, zero, suc, Bool, true, false, nat_lt, cond, inl, inr, refl, sym, ap, ◌∙◌, arith, add-one, ℤ, pos, ◌+ℤ◌, rules}
use Rattle.std.proofs.lemmas.Bool.{cases_lt, Decides.nat_tests}
use Rattle.jiff_core.specs.{declared.civil.date.Date.Date as JiffDate, Date.epoch_day}
use Rattle.jiff_core.{specs.Calendar.{days_from_civil, day_count}, proofs.SignedLemmas.signed_arith}
use Rattle.jiff_core.proofs.StandardFacts.{known_days}
use Rattle.jiff_core.proofs.CalendarLemmas.{days_from_civil-day_count, day_count-lt_year, days_in_month_bounds}
use Rattle.jiff_core.proofs.DateLemmas.{days_from_civil-day, days_from_civil-next_month, days_from_civil-next_year, days_from_civil-max, epoch_day_injective}
use Rattle.uimg_texts.specs.Calendar.{Date, month_length, next_day, civil_date}

-- a month and a day that the calendar has
pub record IsDay (d : Date) : Type 0 where
  pub first_month : 1 ≤ d.month
  pub last_month : d.month ≤ 12
  pub first_day : 1 ≤ d.day
  pub last_day : d.day ≤ month_length d.year d.month

-- the day number of a date
abbrev pub number_of : Date → ℤ
number_of d = days_from_civil (pos d.year) d.month d.day

month_length_bounds : (y m : ℕ) → (month_length y m ≤ 31) × (28 ≤ month_length y m)
month_length_bounds y m = days_in_month_bounds (pos y) m

-- a date whose day number is one more
pub record Follows (d e : Date) : Type 0 where
  pub is_day : IsDay e
  pub number : number_of e ≡ number_of d +ℤ pos 1

same_month : (d : Date) → IsDay d → d.day < month_length d.year d.month → Follows d (record d { day = suc d.day })
same_month d h lt = record {
  is_day = record { first_month = h.first_month; last_month = h.last_month; first_day = omega arith; last_day = lt };
  number = omega (arith, signed_arith, days_from_civil-day (pos d.year) d.month d.day (suc d.day) h.first_day (omega arith));
}

next_month : (d : Date) → IsDay d → d.day ≡ month_length d.year d.month → d.month < 12 → Follows d (record { year = d.year; month = suc d.month; day = 1 })
next_month d h last lt = record {
  is_day = record { first_month = omega arith; last_month = lt; first_day = omega arith; last_day = omega (arith, month_length_bounds d.year (suc d.month)) };
  number = rw add-one at (days_from_civil-next_month (pos d.year) d.month d.day h.first_month last);
}

next_year : (d : Date) → IsDay d → d.day ≡ month_length d.year d.month → d.month ≡ 12 → Follows d (record { year = suc d.year; month = 1; day = 1 })
next_year d h last december =
    let end : d.day ≡ 31 = last ∙ ap (λ (m : ℕ). month_length d.year m) december in
    record {
      is_day = record { first_month = omega arith; last_month = omega arith; first_day = omega arith; last_day = omega (arith, month_length_bounds (suc d.year) 1) };
      number = rw (december, end) (days_from_civil-next_year (pos d.year) (pos (suc d.year)) (search rules) (omega (arith, signed_arith)));
    }

-- what holds of either side holds of a choice
by_cond : {X : Type 0} (P : X → Type 0) (b : Bool) (x y : X) → (b ≡ true → P x) → (b ≡ false → P y) → P (cond b x y)
by_cond P true x y t f = t refl
by_cond P false x y t f = f refl

lt_is : (a b : ℕ) → nat_lt a b ≡ true → a < b
lt_is a b t = grind (arith, nat_tests)

le_is : (a b : ℕ) → nat_lt a b ≡ false → b ≤ a
le_is a b f = grind (arith, nat_tests)

-- the next day has the next number
pub next_day-follows : (d : Date) → IsDay d → Follows d (next_day d)
next_day-follows d h =
    let full = month_length d.year d.month in
    by_cond (Follows d) (nat_lt d.day full) _ _ (λ t. same_month d h (lt_is d.day full t))
    (λ f. let last : d.day ≡ full = omega (arith, le_is d.day full f, h.last_day) in
    by_cond (Follows d) (nat_lt d.month 12) _ _ (λ t. next_month d h last (lt_is d.month 12 t))
    (λ g. next_year d h last (omega (arith, le_is d.month 12 g, h.last_month))))

-- a day with that number
pub record IsDayOf (n : ℕ) (d : Date) : Type 0 where
  pub is_day : IsDay d
  pub number : number_of d ≡ pos n

-- the day that follows has the number after it
next_number : (n : ℕ) (d : Date) → IsDayOf n d → IsDayOf (suc n) (next_day d)
next_number n d h =
    let next = next_day-follows d h.is_day in
    let one : pos n +ℤ pos 1 ≡ pos (suc n) = omega (arith, signed_arith) in
    record { is_day = next.is_day; number = next.number ∙ ap (λ (z : ℤ). z +ℤ pos 1) h.number ∙ one }

-- each date of the definition is a day of the calendar, and its number is the one that it was made of
pub civil_date-number : (n : ℕ) → IsDayOf n (civil_date n)
unfolding civil_date
civil_date-number zero = record {
  is_day = record { first_month = omega arith; last_month = omega arith; first_day = omega arith; last_day = omega arith };
  number = known_days.0;
}
civil_date-number (suc n) = next_number n (civil_date n) (civil_date-number n)

-- and it lies before the year 10000 where the number is small
pub year_bound : (n : ℕ) (d : Date) → IsDayOf n d → n < 49711 → d.year ≤ 9999
year_bound n d h low =
    elim (cases_lt 9999 d.year) [
      | inl later ↦ absurd (
          let after : day_count (pos 9999) 12 31 < day_count (pos d.year) d.month d.day = day_count-lt_year (pos 9999) 12 31 (pos d.year) d.month d.day (search rules) h.is_day.first_day (omega (arith, signed_arith)) in
          omega (arith, signed_arith, h.number, days_from_civil-day_count (pos 9999) 12 31, days_from_civil-day_count (pos d.year) d.month d.day, days_from_civil-max))
      | inr within ↦ within
    ]

-- the same date, as `jiff` has it
abbrev pub jiff_date : (n : ℕ) (d : Date) → IsDayOf n d → n < 49711 → JiffDate
jiff_date n d h low = record {
  year = pos d.year;
  month = d.month;
  day = d.day;
  year_in = omega (arith, signed_arith, year_bound n d h low);
  month_in = (h.is_day.first_month, h.is_day.last_month);
  day_in = (h.is_day.first_day, h.is_day.last_day);
}

-- a date with that number is the same
pub same_date : (n : ℕ) (d : Date) (e : JiffDate) → IsDayOf n d → n < 49711 → epoch_day e ≡ pos n → (e.year ≡ pos d.year) × (e.month ≡ d.month) × (e.day ≡ d.day)
same_date n d e h low is = epoch_day_injective e (jiff_date n d h low) (is ∙ sym h.number)
