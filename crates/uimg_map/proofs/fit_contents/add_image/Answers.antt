use Rattle.std.proofs.Common.{length, Err, Result, le_refl, ◌∙◌, ap, sym}
use Rattle.uimg_base.specs.declared.spans.Span.{Span}
use Rattle.uimg_fit_base.specs.declared.fault.FitFault.{FitFault}
use Rattle.uimg_map.specs.Images.{read_image}
use Rattle.uimg_map.specs.FitContents.{payload_told}
use Rattle.uimg_map.proofs.ContentsLaws.{reads_and_grows, gathers_as, at_most}
use Rattle.uimg_map.proofs.fit_contents.add_image.Goals as goal

pub returns-in-Err : goal.returns-in-Err
returns-in-Err g c =
    let file = (g.S.Source.device c.args.source.now).bytes in
    let image = read_image file c.args.image.now in
    gathers_as
    (λ h. le_refl 12)
    (λ h. ap (λ (found : Result Span FitFault). payload_told (length file) image found) (sym c.in-Err.is ∙ c.in_ok-span.ensures.place h))
    (reads_and_grows {v = λ _. 12} {n = λ _. payload_told (length file) image (Err c.in-Err.fault)} (at_most c.in_ok-span.ensures.uses) c.refuse.ensures)
