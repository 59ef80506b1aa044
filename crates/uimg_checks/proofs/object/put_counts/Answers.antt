use Rattle.uimg_printing.proofs.StepLaws.{after}
use Rattle.uimg_checks.proofs.object.put_counts.Goals as goal

pub returns : goal.returns
returns c =
    after c.in_ok-put_number.ensures (after c.in_ok-put_number-2.ensures c.in_ok-put_configurations_if.ensures)
