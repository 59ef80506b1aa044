use Rattle.std.proofs.Common.{rules, ◌≡◌, ◌∙◌, ◌<◌, length, get_or, Bool, IsTrue, ap, sym, subst, arith}
use Rattle.std.proofs.Math.ListN.{length-set}
use Rattle.uimg_blob_reading.specs.Plain.{AllValues}
use Rattle.uimg_blob_writing.specs.{declared.tree.Node.Node, Content.IsBytes, Trees.{siblings, node_of}}
use Rattle.uimg_fit_building.specs.Behind.{entry}
use Rattle.uimg_fit_building.proofs.{EachLaws.{same-at, rest-more, changed-more, changed-all}, ImageFillLaws.siblings-each}
use Rattle.uimg_fit_updating.specs.Importing.{imported}
use Rattle.uimg_fit_updating.proofs.ImportLaws.{bytes_at, bytes_set}
use Rattle.uimg_fit_updating.proofs.importing.import_images.Goals as goal

pub loop-image-preserved : goal.loop-image-preserved
loop-image-preserved g c =
    let d = g.S.Source.device c.args.source.now in
    let old = c.args.images.now in
    let now = c.loop-image.images in
    let i = c.loop-image.image-index in
    let e = c.image-item.result in
    let s = c.loop-image.invariant in
    let new = c.import_image.new.image in
    let one = c.in_ok-left-2.ensures in
    let in_now : i < length now = omega arith in
    let in_old : i < length old = omega (arith, s.long) in
    record {
      same = record { bytes = one.same.bytes ∙ s.same.bytes; honest = one.same.honest ∙ s.same.honest };
      long = length-set now i new ∙ s.long;
      in_memory = λ all. bytes_set now i new (s.in_memory all) (one.in_memory (bytes_at now i e (s.in_memory all) in_now));
      rest = rest-more old now i e new in_old in_now s.rest;
      changed = λ honest.
          let f = imported d.bytes c.args.totalsize in
          let here = same-at entry f old now i e in_old in_now s.rest in
          let told = one.told (subst (λ (b : Bool). IsTrue b) (sym s.same.honest) honest) in
          changed-more entry f old now i e new in_old in_now (s.changed honest)
          (told ∙ ap (λ bytes. imported bytes c.args.totalsize (entry (get_or now i e))) s.same.bytes ∙ ap (λ (n : Node _). f (entry n)) here);
    }

pub returns-clause-told : goal.returns-clause-told
returns-clause-told g c = λ honest.
    let f = imported (g.S.Source.device c.args.source.now).bytes c.args.totalsize in
    let s = c.loop-image.invariant in
    siblings-each f c.args.images.now c.loop-image.images
    (changed-all entry f c.args.images.now c.loop-image.images c.loop-image.image-index (omega (arith, s.long)) (omega arith) (s.changed honest))
