use Rattle.uimg_fit_reading.proofs.NodeLaws.{name_stands}
use Rattle.uimg_fit_reading.proofs.nodes.name_of.Goals as goal

pub returns-clause-name : goal.returns-clause-name
returns-clause-name g c = λ file t read level found n. (name_stands file _ _ t level _ found c.name.result read n c.name.ensures.name).0

pub returns-clause-short : goal.returns-clause-short
returns-clause-short g c = λ file t read level found n. (name_stands file _ _ t level _ found c.name.result read n c.name.ensures.name).1
