use Rattle.uimg_blob_reading.specs.LookUps.{hashes}
use Rattle.uimg_fit_reading.proofs.HashLaws.{children_are}
use Rattle.uimg_fit_reading.proofs.nodes.first_hash.Goals as goal

pub returns-clause-hashes : goal.returns-clause-hashes
returns-clause-hashes g c = λ t indexed found n.
    c.hash_from.ensures.hashes t indexed (hashes found) (children_are t _ _ _ found c.first_child.result indexed n c.first_child.ensures.child)
