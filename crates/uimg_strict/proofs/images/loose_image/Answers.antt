use Rattle.std.proofs.Common.{refl, Option, ap, sym, ◌∙◌, subst}
use Rattle.std.specs.Option.{option_map}
use Rattle.uimg_blob_reading.specs.Roles.{in_images}
use Rattle.uimg_strict.specs.Looseness.{LooseSaid, in_node}
use Rattle.uimg_strict.specs.Telling.{TellsLoose}
use Rattle.uimg_strict.proofs.ImageLaws.{place_told}
use Rattle.uimg_strict.proofs.images.loose_image.Goals as goal

pub returns-in_default-clause-told : goal.returns-in_default-clause-told
returns-in_default-clause-told g c = λ t o found n.
    let i = o.read.indexed in
    ap (option_map (λ kind. in_node kind found.name)) (sym c.in_default.is)
    ∙ place_told found c.value_of.result c.value_of-2.result c.value_of-3.result c.value_of-4.result c.loose_place-why.result c.loose_place-why.ensures
    (c.value_of.ensures.span t i in_images found n refl) (c.value_of-2.ensures.span t i in_images found n refl)
    (c.value_of-3.ensures.span t i in_images found n refl) (c.value_of-4.ensures.span t i in_images found n refl)

pub returns-clause-told : goal.returns-clause-told
returns-clause-told g c = λ t o found n.
    let i = o.read.indexed in
    let is =
    ap (option_map (λ kind. in_node kind found.name)) (sym c.in-Some.is)
    ∙ place_told found c.value_of.result c.value_of-2.result c.value_of-3.result c.value_of-4.result c.loose_place-why.result c.loose_place-why.ensures
    (c.value_of.ensures.span t i in_images found n refl) (c.value_of-2.ensures.span t i in_images found n refl)
    (c.value_of-3.ensures.span t i in_images found n refl) (c.value_of-4.ensures.span t i in_images found n refl) in
    subst (λ (o : Option LooseSaid). TellsLoose o c.in_image.result) is (c.in_image.ensures.told t o found n)
