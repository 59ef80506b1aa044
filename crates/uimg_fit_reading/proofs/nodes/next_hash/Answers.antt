use Rattle.uimg_fit_reading.proofs.HashLaws.{after_are}
use Rattle.uimg_fit_reading.proofs.nodes.next_hash.Goals as goal

pub returns-clause-hashes : goal.returns-clause-hashes
returns-clause-hashes g c = λ t indexed found more at.
    c.hash_from.ensures.hashes t indexed more (after_are t _ _ _ c.next_sibling.result found more indexed at c.next_sibling.ensures.sibling)
