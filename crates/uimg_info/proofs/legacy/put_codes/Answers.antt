use Rattle.uimg_printing.proofs.StepLaws.{after}
use Rattle.uimg_info.proofs.legacy.put_codes.Goals as goal

pub returns : goal.returns
returns c = after c.in_ok-put_code.ensures (after c.in_ok-put_code-2.ensures (after c.in_ok-put_code-3.ensures c.in_ok-put_code-4.ensures))
