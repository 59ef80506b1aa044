use Rattle.uimg_legacy.specs.Listing.{name_line}
use Rattle.uimg_legacy.proofs.lines.put_name.Goals as goal

pub returns : goal.returns
unfolding name_line
returns g c = rw (← c.before_nul.ensures) c.put_line.ensures
