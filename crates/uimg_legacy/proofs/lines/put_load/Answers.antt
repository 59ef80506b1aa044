use Rattle.uimg_legacy.specs.Listing.{load_line}
use Rattle.uimg_legacy.proofs.lines.put_load.Goals as goal

pub returns : goal.returns
unfolding load_line
returns g c = rw (← c.address_text.ensures) c.put_line.ensures
