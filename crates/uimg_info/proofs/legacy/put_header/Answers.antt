use Rattle.uimg_printing.proofs.StepLaws.{after}
use Rattle.uimg_info.proofs.legacy.put_header.Goals as goal

pub returns : goal.returns
returns c = after c.in_ok-put_numbers.ensures (after c.in_ok-put_codes.ensures c.in_ok-put_number.ensures)
