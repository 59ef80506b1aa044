use Rattle.uimg_printing.proofs.StepLaws.{after}
use Rattle.uimg_info.proofs.legacy.put_head.Goals as goal

pub returns : goal.returns
returns c = after c.in_ok-put_string.ensures (after c.in_ok-put_number.ensures (after c.in_ok-put_string-2.ensures c.in_ok-put_number-2.ensures))
