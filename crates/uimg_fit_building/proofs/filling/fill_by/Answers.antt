use Rattle.std.proofs.Common.{rules, ◌≡◌, ◌∙◌, true, is_err, List, length, ap, sym, subst, arith, false, Err, codes}
use Rattle.std.specs.{List.AllByRecursion, Option.{IfSome, IsSomeAnd}, Bool.⊤}
use Rattle.uimg_blob_reading.specs.{LookUps.images, Plain.{NamedOf, no_node, a_node}}
use Rattle.uimg_blob_writing.specs.{Content.{Content, Unread, bytes}, Encoding.word}
use Rattle.uimg_blob_writing.specs.{Trees.{siblings, node_of}, declared.tree.{Node.Node, Tree.Tree}}
use Rattle.uimg_fit_building.specs.FillAnswers.{opens_no_file, fails_to_read, FillsAnswerBy}
use Rattle.uimg_fit_building.specs.{FillOrder.{IsPassed, FillsInOrder}, PayloadSums.no_files}
use Rattle.uimg_fit_building.specs.{Filling.{with, in_first, each}, DigestBytes.zeroed_below}
use Rattle.uimg_fit_building.specs.ImageFillings.{IsKeptImage, images_among, FillsBelow, fault_among, filled_over}
use Rattle.uimg_fit_building.proofs.EachLaws.{written-back}
use Rattle.uimg_fit_building.proofs.FillOrderLaws.{by-refusal, order-passed}
use Rattle.uimg_fit_building.proofs.FillTreeLaws.{kept-below, told-filled, told-refused}
use Rattle.uimg_blob_writing.specs.UsingFiles.{OpensEach}
use Rattle.uimg_fit_building.specs.OpenedFiles.{summed_files}
use Rattle.uimg_fit_building.proofs.OpenedFilesLaws.{each_fails}
use Rattle.uimg_fit_building.proofs.filling.fill_by.Goals as goal

pub returns-in_err-fill_below-clause-found : goal.returns-in_err-fill_below-clause-found
returns-in_err-fill_below-clause-found g c = λ complete kept.
    let root = c.args.tree.root in
    let files = (g.F.Files.map c.args.files.now).bytes in
    let below : siblings c.as_mut_slice.result.now ≡ root.children = ap siblings c.as_mut_slice.ensures.value ∙ c.into_vec-nodes.ensures in
    by-refusal (λ r. opens_no_file r ≡ false) c.from_residual.result c.in_err-fill_below.field-0.0 c.from_residual.ensures.1
    (c.in_err-fill_below.ensures.opens.found complete
    (subst (λ (t : Unread). IfSome (images_among t) (AllByRecursion (IsKeptImage files))) (sym below) (kept-below c.args.naming files root.name root.props root.children kept)))

pub returns-in_err-fill_below-clause-steady : goal.returns-in_err-fill_below-clause-steady
returns-in_err-fill_below-clause-steady g c = λ steady honest kept.
    let root = c.args.tree.root in
    let files = (g.F.Files.map c.args.files.now).bytes in
    let below : siblings c.as_mut_slice.result.now ≡ root.children = ap siblings c.as_mut_slice.ensures.value ∙ c.into_vec-nodes.ensures in
    by-refusal (λ r. fails_to_read r ≡ false) c.from_residual.result c.in_err-fill_below.field-0.0 c.from_residual.ensures.1
    (c.in_err-fill_below.ensures.opens.steady steady honest
    (subst (λ (t : Unread). IfSome (images_among t) (AllByRecursion (IsKeptImage files))) (sym below) (kept-below c.args.naming files root.name root.props root.children kept)))

pub returns-in_err-fill_below-clause-filled : goal.returns-in_err-fill_below-clause-filled
returns-in_err-fill_below-clause-filled g c = λ honest kept.
    let root = c.args.tree.root in
    let files = (g.F.Files.map c.args.files.now).bytes in
    let below : siblings c.as_mut_slice.result.now ≡ root.children = ap siblings c.as_mut_slice.ensures.value ∙ c.into_vec-nodes.ensures in
    let fault = c.in_err-fill_below.field-0.0 in
    by-refusal (λ r. FillsAnswerBy c.args.naming (λ (filled : Tree g.row.A.Denot). node_of filled.root) files c.args.time (node_of root) r) c.from_residual.result fault c.from_residual.ensures.1
    (told-refused c.args.naming files root.name root.props root.children (Tree g.row.A.Denot) ⊤ (λ filled. node_of filled.root) c.args.time (siblings c.fill_below.new.nodes) fault c.requires
    (subst (λ (t : Unread). FillsBelow {X = ⊤} c.args.naming files t (siblings c.fill_below.new.nodes) (Err fault)) below (c.in_err-fill_below.ensures.filled honest)))

pub returns-in_err-fill_below-clause-order : goal.returns-in_err-fill_below-clause-order
returns-in_err-fill_below-clause-order g c = λ honest.
    let root = c.args.tree.root in
    let files = g.F.Files.map c.args.files.now in
    let steady = g.F.Opened.Source.steady in
    let below : siblings c.as_mut_slice.result.now ≡ root.children = ap siblings c.as_mut_slice.ensures.value ∙ c.into_vec-nodes.ensures in
    let fault = c.in_err-fill_below.field-0.0 in
    by-refusal (λ r. FillsInOrder c.args.naming files steady (images (node_of root)) r) c.from_residual.result fault c.from_residual.ensures.1
    (order-passed c.args.naming ⊤ (Tree g.row.A.Denot) files steady (images (node_of root)) fault
    (subst (λ (t : Unread). FillsInOrder {X = ⊤} c.args.naming files steady (images_among t) (Err fault)) below (c.in_err-fill_below.ensures.order honest)))

pub returns-clause-filled : goal.returns-clause-filled
returns-clause-filled g c = λ honest kept.
    let root = c.args.tree.root in
    let files = (g.F.Files.map c.args.files.now).bytes in
    let below : siblings c.as_mut_slice.result.now ≡ root.children = ap siblings c.as_mut_slice.ensures.value ∙ c.into_vec-nodes.ensures in
    let slots = c.as_mut_slice.ensures in
    let long : length c.into_vec-nodes.result.items ≡ c.into_vec-nodes.result.len = ap (λ (l : List (Node _)). length l) (sym slots.value) ∙ slots.len in
    let back = written-back c.into_vec-nodes.result.len c.fill_below.new.nodes c.into_vec-nodes.result.items (omega (arith, long, slots.len, c.fill_below.auto.nodes)) long (omega (arith, slots.len, c.fill_below.auto.nodes)) in
    let f = c.in_ok-fill_below.ensures.filled honest in
    told-filled c.args.naming files root.name root.props root.children c.args.time c.in_ok-props.props c.of-children.result c.requires kept c.in_ok-props.ensures.made
    (sym (ap (λ (t : Unread). fault_among c.args.naming (images_among t)) below) ∙ f.0)
    (c.of-children.ensures ∙ ap siblings back ∙ f.1 ∙ ap (λ (t : Unread). in_first (codes "images") (each (filled_over c.args.naming files)) t) below)

pub returns-clause-order : goal.returns-clause-order
returns-clause-order g c = λ honest.
    let root = c.args.tree.root in
    let files = (g.F.Files.map c.args.files.now).bytes in
    let below : siblings c.as_mut_slice.result.now ≡ root.children = ap siblings c.as_mut_slice.ensures.value ∙ c.into_vec-nodes.ensures in
    subst (λ (t : Unread). IsSomeAnd (images_among t) (AllByRecursion (IsPassed c.args.naming files))) below (c.in_ok-fill_below.ensures.order honest)

pub returns-clause-rest : goal.returns-clause-rest
returns-clause-rest g c =
    let root = c.args.tree.root in
    let below : siblings c.as_mut_slice.result.now ≡ root.children = ap siblings c.as_mut_slice.ensures.value ∙ c.into_vec-nodes.ensures in
    let slots = c.as_mut_slice.ensures in
    let long : length c.into_vec-nodes.result.items ≡ c.into_vec-nodes.result.len = ap (λ (l : List (Node _)). length l) (sym slots.value) ∙ slots.len in
    let back = written-back c.into_vec-nodes.result.len c.fill_below.new.nodes c.into_vec-nodes.result.items (omega (arith, long, slots.len, c.fill_below.auto.nodes)) long (omega (arith, slots.len, c.fill_below.auto.nodes)) in
    let told = ap (zeroed_below c.args.naming) (c.of-children.ensures ∙ ap siblings back) ∙ c.in_ok-fill_below.ensures.rest
    ∙ ap (λ (t : Unread). zeroed_below c.args.naming (in_first (codes "images") (each (filled_over c.args.naming no_files)) t)) below in
    ap (λ (l : List (NamedOf Content)). a_node root.name l (zeroed_below c.args.naming c.of-children.result) no_node) c.in_ok-props.ensures.made
    ∙ ap (λ (t : Unread). a_node root.name (with (codes "timestamp") (bytes (word c.args.time)) root.props) t no_node) told

pub returns-in_err-fill_below-clause-opened : goal.returns-in_err-fill_below-clause-opened
returns-in_err-fill_below-clause-opened g c =
    let root = c.args.tree.root in
    let failed : is_err c.from_residual.result ≡ true = search rules in
    let below : siblings c.as_mut_slice.result.now ≡ root.children = ap siblings c.as_mut_slice.ensures.value ∙ c.into_vec-nodes.ensures in
    rw failed (subst (λ (t : Unread). OpensEach true (summed_files (images_among t)) (g.F.Files.map c.args.files.now) (g.F.Files.map c.fill_below.new.files)) below c.in_err-fill_below.ensures.opened)

pub returns-in_err-props-clause-opened : goal.returns-in_err-props-clause-opened
returns-in_err-props-clause-opened g c =
    let root = c.args.tree.root in
    let failed : is_err c.from_residual-in_err-props.result ≡ true = search rules in
    let below : siblings c.as_mut_slice.result.now ≡ root.children = ap siblings c.as_mut_slice.ensures.value ∙ c.into_vec-nodes.ensures in
    rw failed (each_fails (subst (λ (t : Unread). OpensEach false (summed_files (images_among t)) (g.F.Files.map c.args.files.now) (g.F.Files.map c.fill_below.new.files)) below c.in_ok-fill_below.ensures.opened))

pub returns-clause-opened : goal.returns-clause-opened
returns-clause-opened g c =
    let root = c.args.tree.root in
    let below : siblings c.as_mut_slice.result.now ≡ root.children = ap siblings c.as_mut_slice.ensures.value ∙ c.into_vec-nodes.ensures in
    subst (λ (t : Unread). OpensEach false (summed_files (images_among t)) (g.F.Files.map c.args.files.now) (g.F.Files.map c.fill_below.new.files)) below c.in_ok-fill_below.ensures.opened
