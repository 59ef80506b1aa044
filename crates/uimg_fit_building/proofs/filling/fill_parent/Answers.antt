use Rattle.std.proofs.Common.{rules, is_err, ◌≡◌, ◌∙◌, List, Some, length, map, ap, sym, subst, arith}
use Rattle.std.specs.{List.AllByRecursion, Bool.⊤}
use Rattle.uimg_blob_reading.specs.LookUps.{NodeOf, listed}
use Rattle.uimg_blob_writing.specs.{Content.{Content, Unread}, Trees.siblings}
use Rattle.uimg_blob_writing.specs.declared.tree.Node.{Node}
use Rattle.uimg_fit_building.specs.{Behind.entry, Filling.each, FillOrder.FillsInOrder}
use Rattle.uimg_fit_building.specs.{ImageFillings.{filled_over, IsKeptImage}, PayloadSums.no_files}
use Rattle.uimg_fit_building.specs.DigestBytes.{zeroed_image}
use Rattle.uimg_fit_building.proofs.{EachLaws.written-back, FilledHashLaws.on-ok}
use Rattle.uimg_fit_building.proofs.ImageFillLaws.{listed-siblings, siblings-each}
use Rattle.uimg_fit_building.proofs.FillTreeLaws.{parent-told}
use Rattle.uimg_blob_writing.specs.UsingFiles.{OpensEach}
use Rattle.uimg_fit_building.specs.OpenedFiles.{summed_files}
use Rattle.uimg_fit_building.proofs.filling.fill_parent.Goals as goal

pub returns-clause-opens : goal.returns-clause-opens
returns-clause-opens g c = record {
  files = search rules;
  found = λ complete all.
      let below : siblings c.as_mut_slice.result.now ≡ c.args.parent.now.children = ap siblings c.as_mut_slice.ensures.value ∙ c.into_vec-images.ensures ∙ c.replace-nodes.ensures.value in
      let are : map entry c.as_mut_slice.result.now ≡ listed c.args.parent.now.children = sym (listed-siblings c.as_mut_slice.result.now) ∙ ap (λ (t : Unread). listed t) below in
      c.fill_images-answer.ensures.opens.found complete (subst (AllByRecursion (IsKeptImage (g.F.Files.map c.args.files.now).bytes)) (sym are) all);
  steady = λ steady honest all.
      let below : siblings c.as_mut_slice.result.now ≡ c.args.parent.now.children = ap siblings c.as_mut_slice.ensures.value ∙ c.into_vec-images.ensures ∙ c.replace-nodes.ensures.value in
      let are : map entry c.as_mut_slice.result.now ≡ listed c.args.parent.now.children = sym (listed-siblings c.as_mut_slice.result.now) ∙ ap (λ (t : Unread). listed t) below in
      c.fill_images-answer.ensures.opens.steady steady honest (subst (AllByRecursion (IsKeptImage (g.F.Files.map c.args.files.now).bytes)) (sym are) all);
}

pub returns-clause-filled : goal.returns-clause-filled
returns-clause-filled g c = λ honest.
    let files = (g.F.Files.map c.args.files.now).bytes in
    let parent = c.args.parent.now in
    let was = c.as_mut_slice.result.now in
    let now = c.fill_images-answer.new.images in
    let below : siblings was ≡ parent.children = ap siblings c.as_mut_slice.ensures.value ∙ c.into_vec-images.ensures ∙ c.replace-nodes.ensures.value in
    let are : map entry was ≡ listed parent.children = sym (listed-siblings was) ∙ ap (λ (t : Unread). listed t) below in
    let slots = c.as_mut_slice.ensures in
    let long : length c.into_vec-images.result.items ≡ c.into_vec-images.result.len = ap (λ (l : List (Node _)). length l) (sym slots.value) ∙ slots.len in
    let back = written-back c.into_vec-images.result.len now c.into_vec-images.result.items (omega (arith, long, slots.len, c.fill_images-answer.auto.images)) long (omega (arith, slots.len, c.fill_images-answer.auto.images)) in
    let made = λ (t : Unread). let n : Node g.row.A.Denot = record { name = parent.name; props = parent.props; children = t } in n in
    parent-told c.args.naming ⊤ c.fill_images-answer.result files parent (made c.of-2.result) (map entry was) (map entry now) are
    (λ changed. ap made (c.of-2.ensures ∙ ap siblings back ∙ siblings-each (filled_over c.args.naming files) was now changed ∙ ap (λ (t : Unread). each (filled_over c.args.naming files) t) below))
    (c.fill_images-answer.ensures.filled honest)

pub returns-clause-order : goal.returns-clause-order
returns-clause-order g c = λ honest.
    let below : siblings c.as_mut_slice.result.now ≡ c.args.parent.now.children = ap siblings c.as_mut_slice.ensures.value ∙ c.into_vec-images.ensures ∙ c.replace-nodes.ensures.value in
    let are : map entry c.as_mut_slice.result.now ≡ listed c.args.parent.now.children = sym (listed-siblings c.as_mut_slice.result.now) ∙ ap (λ (t : Unread). listed t) below in
    subst (λ (l : List (NodeOf Content)). FillsInOrder c.args.naming (g.F.Files.map c.args.files.now) g.F.Opened.Source.steady (Some l) c.fill_images-answer.result) are (c.fill_images-answer.ensures.order honest)

pub returns-clause-rest : goal.returns-clause-rest
returns-clause-rest g c =
    let parent = c.args.parent.now in
    let now = c.fill_images-answer.new.images in
    let below : siblings c.as_mut_slice.result.now ≡ parent.children = ap siblings c.as_mut_slice.ensures.value ∙ c.into_vec-images.ensures ∙ c.replace-nodes.ensures.value in
    let slots = c.as_mut_slice.ensures in
    let long : length c.into_vec-images.result.items ≡ c.into_vec-images.result.len = ap (λ (l : List (Node _)). length l) (sym slots.value) ∙ slots.len in
    let back = written-back c.into_vec-images.result.len now c.into_vec-images.result.items (omega (arith, long, slots.len, c.fill_images-answer.auto.images)) long (omega (arith, slots.len, c.fill_images-answer.auto.images)) in
    let made = λ (t : Unread). let n : Node g.row.A.Denot = record { name = parent.name; props = parent.props; children = t } in n in
    on-ok c.fill_images-answer.result
    (λ same. ap made (ap (each (zeroed_image c.args.naming)) (c.of-2.ensures ∙ ap siblings back) ∙ same ∙ ap (λ (t : Unread). each (zeroed_image c.args.naming) (each (filled_over c.args.naming no_files) t)) below))
    c.fill_images-answer.ensures.rest

pub returns-clause-opened : goal.returns-clause-opened
returns-clause-opened g c =
    let below : siblings c.as_mut_slice.result.now ≡ c.args.parent.now.children = ap siblings c.as_mut_slice.ensures.value ∙ c.into_vec-images.ensures ∙ c.replace-nodes.ensures.value in
    let are : map entry c.as_mut_slice.result.now ≡ listed c.args.parent.now.children = sym (listed-siblings c.as_mut_slice.result.now) ∙ ap (λ (t : Unread). listed t) below in
    subst (λ (l : List (NodeOf Content)). OpensEach (is_err c.fill_images-answer.result) (summed_files (Some l)) (g.F.Files.map c.args.files.now) (g.F.Files.map c.fill_images-answer.new.files)) are c.fill_images-answer.ensures.opened
