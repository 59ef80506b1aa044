use Rattle.std.proofs.Common.{◌≡◌, ℕ, List, Bool, refl, subst, sym}
use Rattle.std.specs.Prelude.{Result, Ok, Err}
use Rattle.uimg_texts.specs.Slices.{slice}
use Rattle.uimg_base.proofs.Slices.{length-slice}
use Rattle.uimg_fit_base.specs.{declared.fault.Fault.Fault, Faults.of_move}
use Rattle.uimg_fit_reading.specs.ImageReports.{ReportsFoundBetween, ReportsImageBetween}
use Rattle.uimg_fit_reading.proofs.{OpenedLaws.still, PassedLaws.passed_on}
use Rattle.uimg_fit_reading.proofs.ImageReportLaws.{image_done, image_failed, image_cut}
use Rattle.uimg_fit_reading.proofs.report.image_reports.report_image.Goals as goal

pub returns-in_err-span-clause-told : goal.returns-in_err-span-clause-told
returns-in_err-span-clause-told g c = λ t o found n.
    let d = g.S.Source.device in
    let file = (d c.args.fit.now.source.now).bytes in
    let is : c.from_residual.result ≡ Err c.in_err-span.field-0.0 = passed_on c.from_residual.result c.in_err-span.field-0.0 c.from_residual.ensures.1 in
    subst (λ (r : Result Bool Fault). ReportsImageBetween file found (d c.args.fit.now.source.now).asked (d c.payload_place.new.source).asked r c.args.out.now c.args.out.now) (sym is)
    (image_cut file found _ _ c.in_err-span.field-0.0 c.args.out.now (c.in_err-span.ensures.told o.honest t o.read found n) c.payload_place.ensures.uses.asked)

pub returns-in_err-report_found-clause-told : goal.returns-in_err-report_found-clause-told
returns-in_err-report_found-clause-told g c = λ t o found n.
    let d = g.S.Source.device in
    let file = (d c.args.fit.now.source.now).bytes in
    let span = c.in_ok-span.span in
    let same = c.payload_place.ensures.uses.same in
    let failed = c.in_err-report_found.field-0.0 in
    let is : c.from_residual-in_err-report_found.result ≡ Err (of_move failed) = passed_on c.from_residual-in_err-report_found.result (of_move failed) c.from_residual-in_err-report_found.ensures.1 in
    let told = subst (λ (xs : List ℕ). ReportsFoundBetween found (slice xs span.place span.length) span.length (d c.payload_place.new.source).asked (d c.report_found.new.fit.source.now).asked (Err failed) c.args.out.now c.report_found.new.out)
    same.bytes (c.in_err-report_found.ensures.told t (still same refl o) found n) in
    subst (λ (r : Result Bool Fault). ReportsImageBetween file found (d c.args.fit.now.source.now).asked (d c.report_found.new.fit.source.now).asked r c.args.out.now c.report_found.new.out) (sym is)
    (image_failed file found (slice file span.place span.length) span.length _ _ _ failed c.args.out.now c.report_found.new.out
    (c.in_ok-span.ensures.told o.honest t o.read found n) (length-slice file span.place span.length c.in_ok-span.ensures.inside) c.payload_place.ensures.uses.asked told)

pub returns-clause-told : goal.returns-clause-told
returns-clause-told g c = λ t o found n.
    let d = g.S.Source.device in
    let file = (d c.args.fit.now.source.now).bytes in
    let span = c.in_ok-span.span in
    let same = c.payload_place.ensures.uses.same in
    let told = subst (λ (xs : List ℕ). ReportsFoundBetween found (slice xs span.place span.length) span.length (d c.payload_place.new.source).asked (d c.report_found.new.fit.source.now).asked (Ok c.in_ok-report_found.field-0) c.args.out.now c.report_found.new.out)
    same.bytes (c.in_ok-report_found.ensures.told t (still same refl o) found n) in
    image_done file found (slice file span.place span.length) span.length _ _ _ _ c.args.out.now c.report_found.new.out
    (c.in_ok-span.ensures.told o.honest t o.read found n) (length-slice file span.place span.length c.in_ok-span.ensures.inside) c.payload_place.ensures.uses.asked told
