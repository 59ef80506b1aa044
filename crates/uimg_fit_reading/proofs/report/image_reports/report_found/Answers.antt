use Rattle.std.proofs.Common.{◌∙◌, true, false, not, refl, ap, arith}
use Rattle.uimg_texts.specs.Slices.{slice}
use Rattle.uimg_blob_reading.specs.Roles.{in_images}
use Rattle.uimg_fit_reading.proofs.ImageReportLaws.{none_found, some_found, no_hashes}
use Rattle.uimg_fit_reading.proofs.{PlanLaws.if_err, PassedLaws.failed_of}
use Rattle.uimg_fit_reading.proofs.report.image_reports.report_found.Goals as goal

pub returns-in_err-put_unhashed-clause-told : goal.returns-in_err-put_unhashed-clause-told
returns-in_err-put_unhashed-clause-told g c = λ t o found n.
    let file = (g.S.Source.device c.args.fit.now.source.now).bytes in
    let failed = failed_of c.from_residual.result c.from_residual.ensures.0 in
    none_found found _ (slice file c.args.span.place c.args.span.length) c.args.span.length _ _ true c.from_residual.result c.args.out.now c.put_unhashed.new.out
    (c.name_of-name.ensures.name file t o.read in_images found n)
    (no_hashes t c.first_hash-first.result _ (c.is_none.ensures ∙ ap not c.if-is_none.true) (c.first_hash-first.ensures.hashes t o.read.indexed found n))
    (if_err c.from_residual.result _ failed) failed (c.in_err-put_unhashed.ensures.told o.honest)
    (omega (arith, c.put_unhashed.ensures.uses.asked, c.name_of-name.ensures.short file t o.read in_images found n))

pub returns-then-is_none-clause-told : goal.returns-then-is_none-clause-told
returns-then-is_none-clause-told g c = λ t o found n.
    let file = (g.S.Source.device c.args.fit.now.source.now).bytes in
    none_found found _ (slice file c.args.span.place c.args.span.length) c.args.span.length _ _ false _ c.args.out.now c.put_unhashed.new.out
    (c.name_of-name.ensures.name file t o.read in_images found n)
    (no_hashes t c.first_hash-first.result _ (c.is_none.ensures ∙ ap not c.if-is_none.true) (c.first_hash-first.ensures.hashes t o.read.indexed found n))
    refl refl (c.in_ok-put_unhashed.ensures.told o.honest)
    (omega (arith, c.put_unhashed.ensures.uses.asked, c.name_of-name.ensures.short file t o.read in_images found n))

pub returns-clause-told : goal.returns-clause-told
returns-clause-told g c = λ t o found n.
    let file = (g.S.Source.device c.args.fit.now.source.now).bytes in
    let hashes-at = c.first_hash-first.ensures.hashes t o.read.indexed found n in
    some_found t found _ (slice file c.args.span.place c.args.span.length) c.args.span.length c.name_of-name.result.length _ _ c.first_hash-first.result c.report_hashes.result c.args.out.now c.report_hashes.new.out
    (c.name_of-name.ensures.name file t o.read in_images found n) (c.name_of-name.ensures.short file t o.read in_images found n)
    (c.is_none.ensures ∙ ap not c.if-is_none.false) hashes-at (c.report_hashes.ensures.told t o _ hashes-at)
