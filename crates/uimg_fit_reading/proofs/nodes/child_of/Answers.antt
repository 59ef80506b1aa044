use Rattle.uimg_fit_reading.proofs.ImageLaws.{children_of}
use Rattle.uimg_fit_reading.proofs.nodes.child_of.Goals as goal

pub returns-clause-children : goal.returns-clause-children
returns-clause-children g c = λ t indexed level found n. children_of t _ _ level _ c.first_child.result found indexed n c.first_child.ensures.child
