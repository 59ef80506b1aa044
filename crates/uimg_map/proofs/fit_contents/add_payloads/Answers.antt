use Rattle.std.proofs.Common.{rules, ◌≡◌, ◌≤◌, List, ℕ, length, IsTrue, sym, subst, slice_index_or, arith}
use Rattle.uimg_map.specs.Images.{read_image}
use Rattle.uimg_map.specs.{Contents.GrowsBy, FitContents.image_told, declared.images.Image.Image}
use Rattle.uimg_map.proofs.FitLaws.{image_then, images_end, no_image}
use Rattle.uimg_map.proofs.fit_contents.add_payloads.Goals as goal

pub loop-image-preserved : goal.loop-image-preserved
loop-image-preserved g c =
    let device = g.S.Source.device in
    let file = (device c.args.source.now).bytes in
    let same = c.loop-image.invariant.same in
    let images = c.args.found.now.images.items in
    let totalsize = c.args.found.now.totalsize in
    let items = c.deref-image-items.result.now in
    let those : items ≡ images = search rules in
    let image = slice_index_or items c.loop-image.image-index no_image in
    record {
      same = search rules;
      asked = λ h.
          let there : IsTrue (device c.loop-image.source).honest = subst IsTrue (sym same.honest) h in
          let before = c.loop-image.invariant.asked h in
          let next = c.in_ok-add_image.ensures.uses.asked there in
          omega (arith, before, next);
      failures = search rules;
      size = search rules;
      left = λ h all more.
          let there : IsTrue (device c.loop-image.source).honest = subst IsTrue (sym same.honest) h in
          let this : GrowsBy file (image_told (length file) totalsize (read_image file image)) c.loop-image.contents c.add_image.new.contents =
          subst (λ (bytes : List ℕ). GrowsBy bytes (image_told (length bytes) totalsize (read_image bytes image)) c.loop-image.contents c.add_image.new.contents) same.bytes (c.in_ok-add_image.ensures.grows there) in
          c.loop-image.invariant.left h all (image_then file (length file) totalsize images c.loop-image.image-index _ _ _ (search rules)
          (subst (λ (xs : List Image). GrowsBy file (image_told (length file) totalsize (read_image file (slice_index_or xs c.loop-image.image-index no_image))) c.loop-image.contents c.add_image.new.contents) those this) more);
    }

pub returns : goal.returns
returns g c =
    let device = g.S.Source.device in
    let file = (device c.args.source.now).bytes in
    let images = c.args.found.now.images.items in
    let all : length images ≤ c.loop-image.image-index = search rules in
    let most : c.loop-image.image-index ≤ length images = search rules in
    record {
      uses = record { same = search rules; asked = λ h. let so_far = c.loop-image.invariant.asked h in omega (arith, so_far); failures = search rules };
      size = search rules;
      grows = λ h. c.loop-image.invariant.left h _ (images_end file (length file) c.args.found.now.totalsize images c.loop-image.image-index c.loop-image.contents all);
      stops = λ h. tt;
    }
