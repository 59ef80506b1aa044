use Rattle.uimg_fit_reading.proofs.NodeLaws.{value_spans, value_stands}
use Rattle.uimg_fit_reading.proofs.nodes.value_of.Goals as goal

pub returns-clause-span : goal.returns-clause-span
returns-clause-span g c = λ t indexed level found n keeps. value_spans _ _ t level _ found c.args.key c.value.result indexed n keeps c.value.ensures.value

pub returns-clause-bytes : goal.returns-clause-bytes
returns-clause-bytes g c = λ file t read level found n keeps.
    value_stands file _ _ t level _ found c.args.key c.value.result read n
    (value_spans _ _ t level _ found c.args.key c.value.result read.indexed n keeps c.value.ensures.value)
