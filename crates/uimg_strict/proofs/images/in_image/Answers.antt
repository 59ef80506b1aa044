use Rattle.std.proofs.Common.{ℕ, List, Some, ap, ◌∙◌}
use Rattle.uimg_blob_reading.specs.Roles.{in_images}
use Rattle.uimg_strict.specs.Looseness.{in_node}
use Rattle.uimg_strict.proofs.images.in_image.Goals as goal

pub returns-clause-told : goal.returns-clause-told
returns-clause-told g c = λ t o found n.
    let d = g.S.Source.device c.args.source.now in
    let name = c.as_slice.ensures.value ∙ c.in_ok-name.ensures.told o.honest ∙ c.name_of.ensures.name d.bytes t o.read in_images found n in
    c.in_ok-found.ensures ∙ ap (λ (name : List ℕ). Some (in_node c.args.why name)) name
