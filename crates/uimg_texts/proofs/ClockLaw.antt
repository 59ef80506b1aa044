-- What a clock in UTC shows at a second.
use Rattle.std.proofs.Common.{◌≡◌, ◌<◌, ℕ, ◌+◌, ◌*◌, ◌/◌, ◌%◌, ◌^◌, pos, arith}
use Rattle.jiff_core.specs.{declared.civil.datetime.DateTime.DateTime, DateTime.civil_nanos}
use Rattle.jiff_core.{specs.{Date.epoch_day, Time.time_nanos}, proofs.SignedLemmas.signed_arith}
use Rattle.jiff_core.proofs.DateTimeLemmas.{civil_nanos-parts, time_nanos_bound}
use Rattle.uimg_texts.specs.Calendar.{civil_date}
use Rattle.uimg_texts.proofs.CalendarLaw.{civil_date-number, same_date}

-- the day and the second of the day
day_number : (s : ℕ) (dt : DateTime) → civil_nanos dt ≡ pos (s * 1_000_000_000) → (epoch_day dt.date ≡ pos (s / 86400)) × (time_nanos dt.time ≡ (s % 86400) * 1_000_000_000)
day_number s dt e = omega (arith, signed_arith, civil_nanos-parts dt, time_nanos_bound dt.time)

of_nanos : (h m s n r : ℕ) → h < 24 → m < 60 → s < 60 → n < 1_000_000_000 → (h * 3600 + m * 60 + s) * 1_000_000_000 + n ≡ r * 1_000_000_000 → h * 3600 + m * 60 + s ≡ r
of_nanos h m s n r a b c d e = omega arith

clock_parts : (h m s n : ℕ) → m < 60 → s < 60 → h * 3600 + m * 60 + s ≡ n % 86400 → (h ≡ n % 86400 / 3600) × (m ≡ n % 3600 / 60) × (s ≡ n % 60)
clock_parts h m s n a b e = (omega arith, omega arith, omega arith)

-- the date and the clock of a second
pub record Shows (s : ℕ) (dt : DateTime) : Type 0 where
  pub year : dt.date.year ≡ pos (civil_date (s / 86400)).year
  pub month : dt.date.month ≡ (civil_date (s / 86400)).month
  pub day : dt.date.day ≡ (civil_date (s / 86400)).day
  pub hour : dt.time.hour ≡ s % 86400 / 3600
  pub minute : dt.time.minute ≡ s % 3600 / 60
  pub second : dt.time.second ≡ s % 60

pub datetime_shows : (s : ℕ) (dt : DateTime) → s < 2 ^ 32 → civil_nanos dt ≡ pos (s * 1_000_000_000) → Shows s dt
datetime_shows s dt fits e =
    let parts = day_number s dt e in
    let small : s / 86400 < 49711 = omega arith in
    let date = same_date (s / 86400) (civil_date (s / 86400)) dt.date (civil_date-number (s / 86400)) small parts.0 in
    let seconds = of_nanos dt.time.hour dt.time.minute dt.time.second dt.time.subsec_nanosecond (s % 86400) dt.time.hour_in dt.time.minute_in dt.time.second_in dt.time.subsec_in parts.1 in
    let clock = clock_parts dt.time.hour dt.time.minute dt.time.second s dt.time.minute_in dt.time.second_in seconds in
    record { year = date.0; month = date.1; day = date.2; hour = clock.0; minute = clock.1; second = clock.2 }
