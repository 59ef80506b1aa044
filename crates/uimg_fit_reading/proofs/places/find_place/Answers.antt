use Rattle.std.proofs.Common.{◌≡◌, ℕ, Result, IfOk, ap, ◌∙◌, subst}
use Rattle.uimg_base.specs.declared.spans.Span.{Span}
use Rattle.uimg_fit_base.specs.{declared.fault.FitFault.FitFault, Places.place}
use Rattle.uimg_fit_reading.specs.PayloadPlaces.{place_said, payload_said, read_payload}
use Rattle.uimg_fit_reading.proofs.places.find_place.Goals as goal

pub returns-clause-place : goal.returns-clause-place
returns-clause-place g c = λ honest t read found n.
    let file = (g.S.Source.device c.args.source.now).bytes in
    let same : place_said c.totalsize.result (read_payload file c.payload_facts-facts.result) ≡ place file found =
    ap (place_said c.totalsize.result) (c.payload_facts-facts.ensures.said file t read found n)
    ∙ ap (λ (size : ℕ). place_said size (payload_said found)) (c.totalsize.ensures ∙ read.totalsize) in
    subst (λ (w : Result Span FitFault). IfOk c.find_payload.result (λ p. p ≡ w)) same (c.find_payload.ensures.place honest)
