use Rattle.std.proofs.Common.{◌∙◌}
use Rattle.uimg_texts.proofs.TimeLine.{time_text-moment}
use Rattle.uimg_texts.proofs.times.time_text.Goals as goal

pub returns : goal.returns
returns c =
    let m = c.moment_at.result in
    let is = c.moment_at.ensures in
    c.moment_text.ensures ∙ time_text-moment c.args.seconds m.year m.month m.day m.weekday m.hour m.minute m.second is.year is.month is.day is.weekday is.hour is.minute is.second
