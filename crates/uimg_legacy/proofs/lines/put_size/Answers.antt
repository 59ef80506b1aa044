use Rattle.uimg_base.proofs.WritingLaws.{◌▷◌}
use Rattle.uimg_legacy.proofs.lines.put_size.Goals as goal

pub returns : goal.returns
returns g c = c.in_ok-put_all.ensures.writes ▷ c.in_ok-size_text.ensures ▷ c.put_all-2.ensures.writes
