use Rattle.std.{proofs.Common.{Option, sym, ◌∙◌, subst}, specs.Prelude.ℕ}
use Rattle.uimg_fit_reading.specs.Nodes.{HasImages}
use Rattle.uimg_fit_reading.proofs.ImageLaws.{begin, row_within, lacks_images}
use Rattle.uimg_fit_reading.proofs.images.first_image.Goals as goal

pub first_child-requires : goal.first_child-requires
first_child-requires g c =
    let b = begin c.requires.nodes c.in-Some.images (sym c.requires.indexed.images ∙ sym c.in-Some.ensures) in
    row_within c.requires.nodes _ _ _ b.row c.requires.indexed b.is

pub returns-in-Some-clause-told : goal.returns-in-Some-clause-told
returns-in-Some-clause-told g c = λ t h.
    let b = begin t c.in-Some.images (sym h.images ∙ sym c.in-Some.ensures) in
    subst (λ (first : Option ℕ). HasImages t first) (sym (c.first_child.ensures.child b.row (record { nodes = t; indexed = h; is = b.is }))) b.has

pub returns-in-None-clause-told : goal.returns-in-None-clause-told
returns-in-None-clause-told g c = λ t h. lacks_images t (sym h.images ∙ sym c.in-None.ensures)
