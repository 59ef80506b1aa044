use Rattle.std.proofs.Common.{rules, ◌≡◌, Ok, Err, Result, subst, sym, ◌∙◌}
use Rattle.uimg_base.specs.declared.spans.Span.{Span}
use Rattle.uimg_fit_base.specs.declared.fault.Fault.{Fault, TheVariants.Fit}
use Rattle.uimg_fit_base.specs.Places.{place, TellsPlace}
use Rattle.uimg_fit_reading.proofs.PlaceLaws.{payload_inside, payload_outside, payload_lacks}
use Rattle.uimg_fit_reading.proofs.PassedLaws.{passed_on}
use Rattle.uimg_fit_reading.proofs.places.payload_place.Goals as goal

pub returns-in_err-span-clause-told : goal.returns-in_err-span-clause-told
returns-in_err-span-clause-told g c = λ honest t read found n.
    let file = (g.S.Source.device c.args.source.now).bytes in
    let is : c.from_residual-in_err-span.result ≡ Err (Fit c.in_err-span.field-0.0) = passed_on c.from_residual-in_err-span.result (Fit c.in_err-span.field-0.0) c.from_residual-in_err-span.ensures.1 in
    let fault : Err c.in_err-span.field-0.0 ≡ place file found = sym c.in_err-span.was ∙ c.in_ok-find_place.ensures.place honest t read found n in
    subst (λ (r : Result Span Fault). TellsPlace file found r) (sym is) (payload_lacks file found c.in_err-span.field-0.0 fault)

pub returns-then-branch-clause-told : goal.returns-then-branch-clause-told
returns-then-branch-clause-told g c = λ honest t read found n.
    let file = (g.S.Source.device c.args.source.now).bytes in
    let is : Ok c.in_ok-span.span ≡ place file found = sym c.in_ok-span.was ∙ c.in_ok-find_place.ensures.place honest t read found n in
    payload_outside file found c.in_ok-span.span is (search rules)

pub returns-clause-told : goal.returns-clause-told
returns-clause-told g c = λ honest t read found n.
    let file = (g.S.Source.device c.args.source.now).bytes in
    let is : Ok c.in_ok-span.span ≡ place file found = sym c.in_ok-span.was ∙ c.in_ok-find_place.ensures.place honest t read found n in
    payload_inside file found c.in_ok-span.span is (search rules)

pub returns-clause-place : goal.returns-clause-place
returns-clause-place g c = λ honest t read found n. sym (c.in_ok-find_place.ensures.place honest t read found n) ∙ c.in_ok-span.was
