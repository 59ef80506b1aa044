use Rattle.std.proofs.Common.{length, ap, ◌∙◌, rules}
use Rattle.uimg_texts.proofs.TimeLine.{bytes_of_parts, parts_of_text}
use Rattle.uimg_texts.proofs.times.moment_text.Goals as goal

pub returns : goal.returns
returns c =
    bytes_of_parts c.weekday_name-weekday.result c.month_name-month.result c.day_text-day.result c.two_digits-hour.result c.two_digits-minute.result c.two_digits-second.result c.two_digits-century.result c.two_digits-year.result
    (search rules) (search rules) (search rules) (ap length c.two_digits-hour.ensures) (ap length c.two_digits-minute.ensures) (ap length c.two_digits-second.ensures) (ap length c.two_digits-century.ensures) (ap length c.two_digits-year.ensures)
    ∙ parts_of_text c.args.moment.year c.args.moment.month c.args.moment.day c.args.moment.weekday c.args.moment.hour c.args.moment.minute c.args.moment.second
    c.weekday_name-weekday.result c.month_name-month.result c.day_text-day.result c.two_digits-hour.result c.two_digits-minute.result c.two_digits-second.result c.two_digits-century.result c.two_digits-year.result
    c.weekday_name-weekday.ensures c.month_name-month.ensures c.day_text-day.ensures c.two_digits-hour.ensures c.two_digits-minute.ensures c.two_digits-second.ensures c.two_digits-century.ensures c.two_digits-year.ensures
