use Rattle.std.proofs.Common.{refl}
use Rattle.uimg_blob_reading.specs.LookUps.{listed}
use Rattle.uimg_blob_reading.specs.Roles.{in_configurations}
use Rattle.uimg_fit_checking.proofs.surveying.gathered_nodes.configuration_facts.Goals as goal

pub returns-clause-said : goal.returns-clause-said
returns-clause-said g c = λ file t read found node.
    rw (c.name_of.ensures.name file t read in_configurations found node)
    (rw (c.in_ok-nodes.ensures.said file t read (listed found.below) (c.child_of.ensures.children t read.indexed in_configurations found node))
    (rw (← c.value_of.ensures.bytes file t read in_configurations found node refl)
    (rw (← c.value_of-2.ensures.bytes file t read in_configurations found node refl)
    (rw (← c.value_of-3.ensures.bytes file t read in_configurations found node refl)
    (rw (← c.value_of-4.ensures.bytes file t read in_configurations found node refl)
    (rw (← c.value_of-5.ensures.bytes file t read in_configurations found node refl)
    (rw (← c.value_of-6.ensures.bytes file t read in_configurations found node refl)
    (rw (← c.value_of-7.ensures.bytes file t read in_configurations found node refl)
    (rw (← c.value_of-8.ensures.bytes file t read in_configurations found node refl)
    (rw (← c.value_of-9.ensures.bytes file t read in_configurations found node refl)
    (rw (← c.value_of-10.ensures.bytes file t read in_configurations found node refl) refl)))))))))))
