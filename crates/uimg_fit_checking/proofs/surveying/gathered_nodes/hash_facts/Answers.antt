use Rattle.std.proofs.Common.{refl}
use Rattle.uimg_blob_reading.specs.Roles.{in_image}
use Rattle.uimg_fit_reading.proofs.CompareLaws.{keeps_algo, keeps_value}
use Rattle.uimg_fit_checking.proofs.surveying.gathered_nodes.hash_facts.Goals as goal

pub returns-clause-said : goal.returns-clause-said
returns-clause-said g c = λ file t read found node named.
    rw (c.name_of.ensures.name file t read in_image found node)
    (rw (← c.value_of.ensures.bytes file t read in_image found node (keeps_algo found.name named))
    (rw (← c.value_of-2.ensures.bytes file t read in_image found node (keeps_value found.name named)) refl))
