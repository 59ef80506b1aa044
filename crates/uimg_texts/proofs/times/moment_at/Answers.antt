use Rattle.std.proofs.Common.{ap, ◌∙◌, arith, unsigned_abs, FitsSigned, w16, to_z-of_z}
use Rattle.jiff_core.proofs.SignedLemmas.{signed_arith}
use Rattle.uimg_texts.proofs.ClockLaw.{datetime_shows}
use Rattle.uimg_texts.proofs.times.moment_at.Goals as goal

pub returns : goal.returns
returns c =
    let shown = datetime_shows c.args.seconds c.utc_datetime.result (omega arith) c.utc_datetime.ensures in
    let fits : FitsSigned w16 c.utc_datetime.result.date.year = omega (arith, signed_arith, c.utc_datetime.result.date.year_in) in
    let size = simp to_z-of_z at c.unsigned_abs.ensures.value in
    record {
      year = size ∙ ap unsigned_abs shown.year;
      month = shown.month;
      day = shown.day;
      weekday = c.weekday_of.ensures;
      hour = shown.hour;
      minute = shown.minute;
      second = shown.second;
    }
