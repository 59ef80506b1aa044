use Rattle.std.proofs.Common.{rules}
use Rattle.uimg_base.proofs.WritingLaws.{written_then}
use Rattle.uimg_legacy.proofs.PartStepsLaws.{puts_by}
use Rattle.uimg_legacy.proofs.building.put_image.Goals as goal

pub returns : goal.returns
returns g c = puts_by c.put_data.ensures.uses (search rules) (search rules) (λ honest. written_then _ _ _ _ _ _ c.in_ok-put_all.ensures.writes.all (c.put_data.ensures.written honest))
