use Rattle.std.proofs.Common.{◌≡◌, ◌∙◌, List, length, ap, sym, subst, arith}
use Rattle.uimg_blob_reading.specs.Plain.{AllValues}
use Rattle.uimg_blob_writing.specs.{declared.tree.Node.Node, Content.{Unread, IsBytes}, Trees.siblings}
use Rattle.uimg_fit_building.specs.Filling.{each}
use Rattle.uimg_fit_building.proofs.{EachLaws.written-back, FilledHashLaws.on-ok}
use Rattle.uimg_fit_updating.specs.Importing.{imported}
use Rattle.uimg_fit_updating.proofs.importing.import_parent.Goals as goal

pub returns-clause-in_memory : goal.returns-clause-in_memory
returns-clause-in_memory g c =
    let parent = c.args.parent.now in
    let now = c.import_images-answer.new.images in
    let below : siblings c.as_mut_slice.result.now ≡ parent.children = ap siblings c.as_mut_slice.ensures.value ∙ c.into_vec-images.ensures ∙ c.replace-nodes.ensures.value in
    let slots = c.as_mut_slice.ensures in
    let long : length c.into_vec-images.result.items ≡ c.into_vec-images.result.len = ap (λ (l : List (Node _)). length l) (sym slots.value) ∙ slots.len in
    let back = written-back c.into_vec-images.result.len now c.into_vec-images.result.items (omega (arith, long, slots.len, c.import_images-answer.auto.images)) long (omega (arith, slots.len, c.import_images-answer.auto.images)) in
    on-ok c.import_images-answer.result
    (λ keeps all. (all.0, subst (AllValues IsBytes) (sym (c.of-2.ensures ∙ ap siblings back)) (keeps (subst (AllValues IsBytes) (sym below) all.1)), tt))
    c.import_images-answer.ensures.in_memory

pub returns-clause-told : goal.returns-clause-told
returns-clause-told g c = λ honest.
    let f = imported (g.S.Source.device c.args.source.now).bytes c.args.totalsize in
    let parent = c.args.parent.now in
    let now = c.import_images-answer.new.images in
    let below : siblings c.as_mut_slice.result.now ≡ parent.children = ap siblings c.as_mut_slice.ensures.value ∙ c.into_vec-images.ensures ∙ c.replace-nodes.ensures.value in
    let slots = c.as_mut_slice.ensures in
    let long : length c.into_vec-images.result.items ≡ c.into_vec-images.result.len = ap (λ (l : List (Node _)). length l) (sym slots.value) ∙ slots.len in
    let back = written-back c.into_vec-images.result.len now c.into_vec-images.result.items (omega (arith, long, slots.len, c.import_images-answer.auto.images)) long (omega (arith, slots.len, c.import_images-answer.auto.images)) in
    let made = λ (t : Unread). let n : Node _ = record { name = parent.name; props = parent.props; children = t } in n in
    on-ok c.import_images-answer.result
    (λ same. ap made (c.of-2.ensures ∙ ap siblings back ∙ same ∙ ap (λ (t : Unread). each f t) below))
    (c.import_images-answer.ensures.told honest)
