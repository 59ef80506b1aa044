use Rattle.uimg_base.proofs.WritingLaws.{◌▷◌}
use Rattle.uimg_blob_writing.proofs.reservation.put_reservations.Goals as goal

pub returns : goal.returns
returns g c = c.in_ok-put_entries.ensures ▷ c.put_all.ensures.writes
