use Rattle.std.proofs.Common.{rules, refl, ◌∙◌, ◌≡◌, ℕ, List, Option, Some, subst, sym}
use Rattle.std.specs.Prelude.{Result, Err}
use Rattle.uimg_base.specs.declared.status.Status.{Status}
use Rattle.uimg_blob_reading.specs.{LookUps.NodeOf, Roles.in_images, Spots.Spot}
use Rattle.uimg_fit_base.specs.declared.fault.Fault.{Fault}
use Rattle.uimg_fit_reading.specs.ImageReports.{ImageDone, ImageCut, ReportsImagesBetween}
use Rattle.uimg_fit_reading.specs.Nodes.{AreFrom}
use Rattle.uimg_fit_reading.proofs.{OpenedLaws.{kept, kept_then, stays}, ImageLaws.front}
use Rattle.uimg_fit_reading.proofs.PassedLaws.{passed_on}
use Rattle.uimg_fit_reading.proofs.ImageReportLaws.{all_images, images_more, images_cut, images_done}
use Rattle.uimg_fit_reading.proofs.report.image_reports.report_images.Goals as goal

pub loop-next-init : goal.loop-next-init
loop-next-init g c = record {
  keeps = kept;
  faults = refl;
  within = search rules;
  left = λ t o found from. all_images t (g.S.Source.device c.args.fit.now.source.now).bytes found _ c.args.out.now c.args.first from;
}

pub loop-next-preserved : goal.loop-next-preserved
loop-next-preserved g c = record {
  keeps = kept_then c.loop-next.invariant.keeps c.in_ok-right.ensures.leaves.keeps;
  faults = c.in_ok-right.ensures.leaves.faults ∙ c.loop-next.invariant.faults;
  within = search rules;
  left = λ t o found from.
      let d = g.S.Source.device in
      let file = (d c.args.fit.now.source.now).bytes in
      let k = c.loop-next.invariant.left t o found from in
      let keeps = c.loop-next.invariant.keeps in
      let here = stays keeps o in
      let start = subst (λ (x : Option ℕ). AreFrom t in_images x k.left) c.in-Some.is k.from in
      let f = front t in_images c.in-Some.image k.left start in
      let told = subst (λ (xs : List ℕ). ImageDone xs f.image (d c.loop-next.fit.source.now).asked (d c.report_image.new.fit.source.now).asked c.in_ok-right.right c.loop-next.out c.report_image.new.out) keeps.uses.same.bytes
      (c.in_ok-right.ensures.told t here f.image f.node) in
      let indexed = (stays c.report_image.ensures.leaves.keeps here).read.indexed in
      images_more t file found (d c.args.fit.now.source.now).asked (d c.loop-next.fit.source.now).asked c.args.out.now c.loop-next.out c.loop-next.are_right c.loop-next.next k
      f.image f.more f.are _ c.report_image.new.out c.next_of-next.result c.in_ok-right.right told
      (c.next_of-next.ensures.next t indexed in_images f.image f.more (subst (λ (l : List (NodeOf Spot)). AreFrom t in_images (Some c.in-Some.image) l) f.are start));
}

pub returns-in_err-right-clause-told : goal.returns-in_err-right-clause-told
returns-in_err-right-clause-told g c = λ t o found from.
    let d = g.S.Source.device in
    let file = (d c.args.fit.now.source.now).bytes in
    let k = c.loop-next.invariant.left t o found from in
    let keeps = c.loop-next.invariant.keeps in
    let fault = c.in_err-right.field-0.0 in
    let is : c.from_residual.result ≡ Err fault = passed_on c.from_residual.result fault c.from_residual.ensures.1 in
    let f = front t in_images c.in-Some.image k.left (subst (λ (x : Option ℕ). AreFrom t in_images x k.left) c.in-Some.is k.from) in
    let cut = subst (λ (xs : List ℕ). ImageCut xs f.image (d c.loop-next.fit.source.now).asked (d c.report_image.new.fit.source.now).asked fault c.loop-next.out c.report_image.new.out) keeps.uses.same.bytes
    (c.in_err-right.ensures.told t (stays keeps o) f.image f.node) in
    subst (λ (r : Result Status Fault). ReportsImagesBetween file found (d c.args.fit.now.source.now).asked (d c.report_image.new.fit.source.now).asked r c.args.out.now c.report_image.new.out) (sym is)
    (images_cut t file found (d c.args.fit.now.source.now).asked (d c.loop-next.fit.source.now).asked c.args.out.now c.loop-next.out c.loop-next.are_right c.loop-next.next k
    f.image f.more f.are _ fault c.report_image.new.out cut)

pub returns-clause-told : goal.returns-clause-told
returns-clause-told g c = λ t o found from.
    images_done t _ found _ _ c.args.out.now c.loop-next.out c.loop-next.are_right c.loop-next.next (search rules) c.status.result c.status.ensures (c.loop-next.invariant.left t o found from)
