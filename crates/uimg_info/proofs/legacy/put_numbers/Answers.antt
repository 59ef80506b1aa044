use Rattle.uimg_printing.proofs.StepLaws.{after}
use Rattle.uimg_info.proofs.legacy.put_numbers.Goals as goal

pub returns : goal.returns
returns c =
    after c.in_ok-put_number.ensures (after c.in_ok-put_number-2.ensures (after c.in_ok-put_number-3.ensures
    (after c.in_ok-put_crc.ensures c.in_ok-put_number-4.ensures)))
