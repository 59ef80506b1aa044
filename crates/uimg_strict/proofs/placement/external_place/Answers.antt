use Rattle.std.proofs.Common.{◌≡◌, ap, sym, ◌∙◌}
use Rattle.uimg_fit_base.specs.Places.{place}
use Rattle.uimg_fit_reading.specs.PayloadPlaces.{place_said, payload_said}
use Rattle.uimg_strict.specs.Looseness.{known}
use Rattle.uimg_strict.proofs.PlacementLaws.{no_external, an_external}
use Rattle.uimg_strict.proofs.placement.external_place.Goals as goal

pub returns-then-is_none-clause-told : goal.returns-then-is_none-clause-told
returns-then-is_none-clause-told g c = λ t o found n.
    let file = (g.S.Source.device c.args.source.now).bytes in
    no_external file found c.payload_facts-facts.result (c.payload_facts-facts.ensures.said file t o.read found n) c.if-is_none.ensures

pub returns-in-Ok-clause-told : goal.returns-in-Ok-clause-told
returns-in-Ok-clause-told g c = λ t o found n.
    let file = (g.S.Source.device c.args.source.now).bytes in
    let said = c.payload_facts-facts.ensures.said file t o.read found n in
    let is : c.in_ok-place.field-0 ≡ place file found =
    c.in_ok-place.ensures.place o.honest ∙ ap (place_said c.totalsize.result) said ∙ ap (λ size. place_said size (payload_said found)) (c.totalsize.ensures ∙ o.read.totalsize) in
    ap known (sym c.in-Ok.is) ∙ an_external file found c.payload_facts-facts.result c.in_ok-place.field-0 said c.if-is_none.ensures is

pub returns-in-Err-clause-told : goal.returns-in-Err-clause-told
returns-in-Err-clause-told g c = λ t o found n.
    let file = (g.S.Source.device c.args.source.now).bytes in
    let said = c.payload_facts-facts.ensures.said file t o.read found n in
    let is : c.in_ok-place.field-0 ≡ place file found =
    c.in_ok-place.ensures.place o.honest ∙ ap (place_said c.totalsize.result) said ∙ ap (λ size. place_said size (payload_said found)) (c.totalsize.ensures ∙ o.read.totalsize) in
    ap known (sym c.in-Err.is) ∙ an_external file found c.payload_facts-facts.result c.in_ok-place.field-0 said c.if-is_none.ensures is
