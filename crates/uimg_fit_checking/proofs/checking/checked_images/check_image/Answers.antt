use Rattle.std.proofs.Common.{rules, ◌≡◌, ℕ, List, refl, subst, sym}
use Rattle.std.specs.Prelude.{Result, Ok, Err}
use Rattle.uimg_texts.specs.Slices.{slice}
use Rattle.uimg_fit_base.specs.declared.fault.Fault.{Fault}
use Rattle.uimg_fit_base.specs.declared.fault.Fault.TheVariants.{Read}
use Rattle.uimg_fit_checking.specs.declared.checking.checked_payloads.Checked.{Checked}
use Rattle.uimg_fit_checking.specs.CheckParts.{ChecksPayloadBetween, ChecksImageBetween}
use Rattle.uimg_fit_reading.proofs.OpenedLaws.{still}
use Rattle.uimg_fit_checking.proofs.CheckLaws.{image_checked, image_cut, image_lacks}
use Rattle.uimg_fit_checking.proofs.checking.checked_images.check_image.Goals as goal

pub returns-in_err-span-clause-told : goal.returns-in_err-span-clause-told
returns-in_err-span-clause-told g c = λ t o found n.
    let d = g.S.Source.device in
    let file = (d c.args.source.now).bytes in
    let fault = c.in_err-span.field-0.0 in
    let is : c.from_residual.result ≡ Err fault = search rules in
    subst (λ (r : Result Checked Fault). ChecksImageBetween file c.args.need c.args.left found (d c.args.source.now).asked (d c.payload_place.new.source).asked r) (sym is)
    (image_lacks file c.args.need c.args.left found _ _ fault (c.in_err-span.ensures.told o.honest t o.read found n) c.payload_place.ensures.uses.asked)

pub returns-in_err-check_payload-clause-told : goal.returns-in_err-check_payload-clause-told
returns-in_err-check_payload-clause-told g c = λ t o found n.
    let d = g.S.Source.device in
    let file = (d c.args.source.now).bytes in
    let span = c.in_ok-span.span in
    let same = c.payload_place.ensures.uses.same in
    let failed = c.in_err-check_payload.field-0.0 in
    let is : c.from_residual-in_err-check_payload.result ≡ Err Read = search rules in
    let told = subst (λ (xs : List ℕ). ChecksPayloadBetween xs c.args.need c.args.left found (slice xs span.place span.length) (d c.payload_place.new.source).asked (d c.check_payload.new.source).asked (Err failed)) same.bytes
    (c.in_err-check_payload.ensures.told t (still same refl o) found n) in
    subst (λ (r : Result Checked Fault). ChecksImageBetween file c.args.need c.args.left found (d c.args.source.now).asked (d c.check_payload.new.source).asked r) (sym is)
    (image_cut file c.args.need c.args.left found (slice file span.place span.length) _ _ _ failed c.payload_place.ensures.uses.asked told)

pub returns-clause-told : goal.returns-clause-told
returns-clause-told g c = λ t o found n.
    let d = g.S.Source.device in
    let file = (d c.args.source.now).bytes in
    let span = c.in_ok-span.span in
    let same = c.payload_place.ensures.uses.same in
    let step = c.in_ok-check_payload.field-0 in
    let told = subst (λ (xs : List ℕ). ChecksPayloadBetween xs c.args.need c.args.left found (slice xs span.place span.length) (d c.payload_place.new.source).asked (d c.check_payload.new.source).asked (Ok step)) same.bytes
    (c.in_ok-check_payload.ensures.told t (still same refl o) found n) in
    image_checked file c.args.need c.args.left found (slice file span.place span.length) _ _ _ step
    (c.in_ok-span.ensures.told o.honest t o.read found n) c.payload_place.ensures.uses.asked told
