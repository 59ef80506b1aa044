use Rattle.std.proofs.Common.{◌≡◌, ◌≢◌, ◌∙◌, sym, subst, ap, List, [], length, Option, Some, OnOk, is_err, arith}
use Rattle.std.specs.{List.filter, Bool.⊤}
use Rattle.uimg_blob_reading.specs.{Plain.NamedOf, LookUps.listed, Roles.is_hash}
use Rattle.uimg_blob_writing.specs.{Content.{Content, Unread, IsKept}, Properties.content}
use Rattle.uimg_blob_writing.specs.{Trees.siblings, declared.tree.Node.Node}
use Rattle.uimg_fit_building.specs.{Filling.{without_external, each}, Behind.entry}
use Rattle.uimg_fit_building.specs.ImageFillings.{hashed_in, filled_over, FillsHashes, FillsImage}
use Rattle.uimg_fit_building.specs.PayloadSums.{no_files, in_memory}
use Rattle.uimg_fit_building.specs.DigestBytes.{zeroed_child, zeroed_image}
use Rattle.uimg_fit_building.proofs.{EachLaws.written-back, FilledHashLaws.on-ok}
use Rattle.uimg_fit_building.proofs.{FillOrderLaws.next-is, DigestBytesLaws.image-zeroed}
use Rattle.uimg_fit_building.proofs.ImageFillLaws.{no-data, image-told, content-none, content-some}
use Rattle.uimg_blob_writing.{specs.UsingFiles.OpensEach, proofs.OpenedLaws.each_unopened}
use Rattle.uimg_fit_building.specs.OpenedFiles.{file_if_hashed}
use Rattle.uimg_fit_building.proofs.filling.filled_images.fill_image.Goals as goal

pub returns-in_default-clause-filled : goal.returns-in_default-clause-filled
returns-in_default-clause-filled g c = λ honest. no-data c.args.naming (entry c.args.image.now) (sym c.payload_of.ensures ∙ content-none _ c.payload_of.result c.in_default.is)

pub returns-in_default-clause-order : goal.returns-in_default-clause-order
returns-in_default-clause-order g c = λ honest. no-data c.args.naming (entry c.args.image.now) (sym c.payload_of.ensures ∙ content-none _ c.payload_of.result c.in_default.is)

pub returns-clause-filled : goal.returns-clause-filled
returns-clause-filled g c = λ honest.
    let files = (g.F.Files.map c.args.files.now).bytes in
    let image = c.args.image.now in
    let now = c.fill_hashes-answer.new.nodes in
    let payload = content c.in-Some.payload.now in
    let answer = c.fill_hashes-answer.result in
    let there = sym c.payload_of.ensures ∙ content-some _ c.payload_of.result c.in-Some.payload c.in-Some.is in
    let below : siblings c.as_mut_slice.result.now ≡ image.children = ap siblings c.as_mut_slice.ensures.value ∙ c.into_vec-list.ensures ∙ c.replace-nodes.ensures.value in
    let slots = c.as_mut_slice.ensures in
    let long : length c.into_vec-list.result.items ≡ c.into_vec-list.result.len = ap (λ (l : List (Node _)). length l) (sym slots.value) ∙ slots.len in
    let back = written-back c.into_vec-list.result.len now c.into_vec-list.result.items (omega (arith, long, slots.len, c.fill_hashes-answer.auto.nodes)) long (omega (arith, slots.len, c.fill_hashes-answer.auto.nodes)) in
    let own = c.without_external.ensures ∙ ap (λ (l : List (NamedOf Content)). without_external l) c.replace-props.ensures.value in
    let children = c.of-2.ensures ∙ ap siblings back in
    let told = image-told c.args.naming ⊤ answer files (entry image) payload (siblings now) there
    (subst (λ (t : Unread). FillsHashes c.args.naming (λ u. siblings now) files payload t answer) below (c.fill_hashes-answer.ensures.filled honest)) in
    subst (λ (l : List (NamedOf Content)). FillsImage c.args.naming files (entry image) (record { name = image.name; own = l; below = c.of-2.result }) answer) (sym own)
    (subst (λ (t : Unread). FillsImage c.args.naming files (entry image) (record { name = image.name; own = without_external image.props; below = t }) answer) (sym children) told)

pub returns-clause-order : goal.returns-clause-order
returns-clause-order g c = λ honest.
    let files = g.F.Files.map c.args.files.now in
    let now = c.fill_hashes-answer.new.nodes in
    let payload = content c.in-Some.payload.now in
    let answer = c.fill_hashes-answer.result in
    let there = sym c.payload_of.ensures ∙ content-some _ c.payload_of.result c.in-Some.payload c.in-Some.is in
    let below : siblings c.as_mut_slice.result.now ≡ c.args.image.now.children = ap siblings c.as_mut_slice.ensures.value ∙ c.into_vec-list.ensures ∙ c.replace-nodes.ensures.value in
    next-is c.args.naming files g.F.Opened.Source.steady (entry c.args.image.now) payload there (λ u. siblings now) answer
    (subst (λ (t : Unread). FillsHashes c.args.naming (λ u. siblings now) files.bytes payload t answer) below (c.fill_hashes-answer.ensures.filled honest))
    (subst (λ (t : Unread). OnOk answer (filter (λ h. is_hash h.name) (listed t) ≢ [] → IsKept files.bytes payload)) below (c.fill_hashes-answer.ensures.kept honest))
    c.fill_hashes-answer.ensures.opens.found (λ steady kept. c.fill_hashes-answer.ensures.opens.steady steady honest kept)

pub returns-clause-rest : goal.returns-clause-rest
returns-clause-rest g c =
    let image = c.args.image.now in
    let now = c.fill_hashes-answer.new.nodes in
    let payload = content c.in-Some.payload.now in
    let answer = c.fill_hashes-answer.result in
    let there = sym c.payload_of.ensures ∙ content-some _ c.payload_of.result c.in-Some.payload c.in-Some.is in
    let below : siblings c.as_mut_slice.result.now ≡ image.children = ap siblings c.as_mut_slice.ensures.value ∙ c.into_vec-list.ensures ∙ c.replace-nodes.ensures.value in
    let slots = c.as_mut_slice.ensures in
    let long : length c.into_vec-list.result.items ≡ c.into_vec-list.result.len = ap (λ (l : List (Node _)). length l) (sym slots.value) ∙ slots.len in
    let back = written-back c.into_vec-list.result.len now c.into_vec-list.result.items (omega (arith, long, slots.len, c.fill_hashes-answer.auto.nodes)) long (omega (arith, slots.len, c.fill_hashes-answer.auto.nodes)) in
    let own = c.without_external.ensures ∙ ap (λ (l : List (NamedOf Content)). without_external l) c.replace-props.ensures.value in
    let children = c.of-2.ensures ∙ ap siblings back in
    let filled = zeroed_image c.args.naming (filled_over c.args.naming no_files (entry image)) in
    let told : OnOk answer (zeroed_image c.args.naming (record { name = image.name; own = without_external image.props; below = siblings now }) ≡ filled) =
    on-ok answer (λ same. image-zeroed c.args.naming (entry image) payload (siblings now) there same)
    (subst (λ (t : Unread). OnOk answer (each (zeroed_child c.args.naming) (siblings now) ≡ each (zeroed_child c.args.naming) (each (hashed_in c.args.naming (in_memory payload)) t))) below (c.fill_hashes-answer.ensures.rest (in_memory payload))) in
    subst (λ (l : List (NamedOf Content)). OnOk answer (zeroed_image c.args.naming (record { name = image.name; own = l; below = c.of-2.result }) ≡ filled)) (sym own)
    (subst (λ (t : Unread). OnOk answer (zeroed_image c.args.naming (record { name = image.name; own = without_external image.props; below = t }) ≡ filled)) (sym children) told)

pub returns-in_default-clause-opened : goal.returns-in_default-clause-opened
returns-in_default-clause-opened g c = each_unopened _ _

pub returns-clause-opened : goal.returns-clause-opened
returns-clause-opened g c =
    let m = g.F.Files.map c.args.files.now in
    let n = g.F.Files.map c.fill_hashes-answer.new.files in
    let e = is_err c.fill_hashes-answer.result in
    let payload = content c.in-Some.payload.now in
    let there = sym c.payload_of.ensures ∙ content-some _ c.payload_of.result c.in-Some.payload c.in-Some.is in
    let below : siblings c.as_mut_slice.result.now ≡ c.args.image.now.children = ap siblings c.as_mut_slice.ensures.value ∙ c.into_vec-list.ensures ∙ c.replace-nodes.ensures.value in
    subst (λ (o : Option Content). OpensEach e (file_if_hashed (filter (λ h. is_hash h.name) (listed c.args.image.now.children)) o) m n) (sym there)
    (subst (λ (t : Unread). OpensEach e (file_if_hashed (filter (λ h. is_hash h.name) (listed t)) (Some payload)) m n) below c.fill_hashes-answer.ensures.opened)
