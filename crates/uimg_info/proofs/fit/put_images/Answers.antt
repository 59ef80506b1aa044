use Rattle.std.proofs.Common.{◌≡◌, ◌≤◌, ◌+◌, is_err, slice_index_or, take, true, ap, rules, arith, ◌∙◌}
use Rattle.std.{specs.List.sum_by, proofs.lemmas.List.Sums.sum_by_more_le}
use Rattle.uimg_info.specs.Work.{image_size}
use Rattle.uimg_info.proofs.fit.put_images.Goals as goal

pub returns-in_err-put_image : goal.returns-in_err-put_image
returns-in_err-put_image g c =
    let device = g.S.Source.device in
    let images = c.args.images.now in
    let i = c.loop-image.image-index in
    let before = c.loop-image.invariant in
    let step = c.put_image.ensures in
    let failed : is_err c.from_residual-in_err-put_image.result ≡ true = search rules in
    let most : sum_by image_size (take i images) + image_size (slice_index_or images i c.image-item.result) ≤ sum_by image_size images =
    sum_by_more_le image_size images i c.image-item.result c.loop-image-test.true in
    let same_one : image_size c.image-item.result ≡ image_size (slice_index_or images i c.image-item.result) = ap image_size c.image-item.is in
    record {
      uses = record {
        same = record { bytes = step.uses.same.bytes ∙ before.same.bytes; honest = step.uses.same.honest ∙ before.same.honest };
        asked = omega (arith, before.asked, step.uses.asked, most, same_one);
        failures = search rules;
      };
      own = search rules;
      before = search rules;
      told = search rules;
    }
