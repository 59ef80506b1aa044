use Rattle.std.proofs.Common.{refl}
use Rattle.uimg_blob_reading.specs.Roles.{in_images}
use Rattle.uimg_fit_reading.proofs.places.payload_facts.Goals as goal

pub returns-clause-said : goal.returns-clause-said
returns-clause-said g c = λ file t read found node.
    rw (c.value_of.ensures.span t read.indexed in_images found node refl)
    (rw (← c.value_of-2.ensures.bytes file t read in_images found node refl)
    (rw (← c.value_of-3.ensures.bytes file t read in_images found node refl)
    (rw (← c.value_of-4.ensures.bytes file t read in_images found node refl) refl)))
