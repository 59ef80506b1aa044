use Rattle.uimg_fit_reading.proofs.HashLaws.{next_are}
use Rattle.uimg_fit_reading.proofs.nodes.next_of.Goals as goal

pub returns-clause-next : goal.returns-clause-next
returns-clause-next g c = λ t indexed level found more from. next_are t _ _ level _ c.next_sibling.result found more indexed from c.next_sibling.ensures.sibling
