use Rattle.std.proofs.Common.{rules, is_err, ◌≡◌, ◌∙◌, ◌<◌, ◌≤◌, ℕ, List, Option, Some, length, get_or, set, ap, sym, subst, arith}
use Rattle.std.specs.{List.AllByRecursion, Bool.⊤}
use Rattle.uimg_blob_reading.specs.LookUps.{NodeOf, listed}
use Rattle.uimg_blob_writing.specs.{Content.Content, Trees.siblings, declared.tree.Node.Node}
use Rattle.uimg_fit_building.specs.{FillOrder.FillsInOrder, Filling.each, PayloadSums.no_files}
use Rattle.uimg_fit_building.specs.ImageFillings.{filled_over, IsKeptImage, FillsParent, FillsBelow}
use Rattle.uimg_fit_building.specs.DigestBytes.{zeroed_parent, zeroed_below}
use Rattle.uimg_fit_building.proofs.{FilledHashLaws.on-ok, DigestBytesLaws.below-zeroed}
use Rattle.uimg_fit_building.proofs.FillTreeLaws.{before, with_children, none-among, no-images, among-found, root-told, images-kept}
use Rattle.uimg_blob_writing.{specs.UsingFiles.OpensEach, proofs.OpenedLaws.each_unopened}
use Rattle.uimg_fit_building.specs.OpenedFiles.{summed_files}
use Rattle.uimg_fit_building.proofs.filling.fill_below.Goals as goal

pub returns-then-at-nodes-clause-filled : goal.returns-then-at-nodes-clause-filled
returns-then-at-nodes-clause-filled g c = λ honest.
    no-images c.args.naming c.args.nodes.now (let past : length c.args.nodes.now ≤ before c.args.nodes.now = omega (arith, c.if-at-nodes.true, c.before_images-at.ensures) in past)

pub returns-then-at-nodes-clause-order : goal.returns-then-at-nodes-clause-order
returns-then-at-nodes-clause-order g c = λ honest.
    none-among c.args.nodes.now (let past : length c.args.nodes.now ≤ before c.args.nodes.now = omega (arith, c.if-at-nodes.true, c.before_images-at.ensures) in past)

pub returns-clause-opens : goal.returns-clause-opens
returns-clause-opens g c = record {
  files = search rules;
  found = λ complete all.
      let ns = c.args.nodes.now in
      let d = c.index-nodes-at.result in
      let within : before ns < length ns = omega (arith, c.if-at-nodes.false, c.before_images-at.ensures) in
      let is : get_or ns c.before_images-at.result d ≡ get_or ns (before ns) d = ap (λ (k : ℕ). get_or ns k d) c.before_images-at.ensures in
      c.fill_parent.ensures.opens.found complete
      (subst (λ (n : Node _). AllByRecursion (IsKeptImage (g.F.Files.map c.args.files.now).bytes) (listed n.children)) (sym is) (images-kept c.args.naming (g.F.Files.map c.args.files.now).bytes ns d c.fill_parent.new.parent within all));
  steady = λ steady honest all.
      let ns = c.args.nodes.now in
      let d = c.index-nodes-at.result in
      let within : before ns < length ns = omega (arith, c.if-at-nodes.false, c.before_images-at.ensures) in
      let is : get_or ns c.before_images-at.result d ≡ get_or ns (before ns) d = ap (λ (k : ℕ). get_or ns k d) c.before_images-at.ensures in
      c.fill_parent.ensures.opens.steady steady honest
      (subst (λ (n : Node _). AllByRecursion (IsKeptImage (g.F.Files.map c.args.files.now).bytes) (listed n.children)) (sym is) (images-kept c.args.naming (g.F.Files.map c.args.files.now).bytes ns d c.fill_parent.new.parent within all));
}

pub returns-clause-filled : goal.returns-clause-filled
returns-clause-filled g c = λ honest.
    let ns = c.args.nodes.now in
    let d = c.index-nodes-at.result in
    let new = c.fill_parent.new.parent in
    let files = (g.F.Files.map c.args.files.now).bytes in
    let within : before ns < length ns = omega (arith, c.if-at-nodes.false, c.before_images-at.ensures) in
    let is : get_or ns c.before_images-at.result d ≡ get_or ns (before ns) d = ap (λ (k : ℕ). get_or ns k d) c.before_images-at.ensures in
    let told = subst (λ (n : Node _). FillsParent c.args.naming files n new c.fill_parent.result) is (c.fill_parent.ensures.filled honest) in
    subst (λ (k : ℕ). FillsBelow c.args.naming files (siblings ns) (siblings (set ns k new)) c.fill_parent.result) (sym c.before_images-at.ensures)
    (root-told c.args.naming files ns d new within ⊤ c.fill_parent.result told)

pub returns-clause-order : goal.returns-clause-order
returns-clause-order g c = λ honest.
    let ns = c.args.nodes.now in
    let d = c.index-nodes-at.result in
    let files = g.F.Files.map c.args.files.now in
    let within : before ns < length ns = omega (arith, c.if-at-nodes.false, c.before_images-at.ensures) in
    let is : get_or ns c.before_images-at.result d ≡ get_or ns (before ns) d = ap (λ (k : ℕ). get_or ns k d) c.before_images-at.ensures in
    let told = subst (λ (n : Node _). FillsInOrder c.args.naming files g.F.Opened.Source.steady (Some (listed n.children)) c.fill_parent.result) is (c.fill_parent.ensures.order honest) in
    subst (λ (o : Option (List (NodeOf Content))). FillsInOrder c.args.naming files g.F.Opened.Source.steady o c.fill_parent.result) (sym (among-found ns d within)) told

pub returns-clause-rest : goal.returns-clause-rest
returns-clause-rest g c =
    let ns = c.args.nodes.now in
    let d = c.index-nodes-at.result in
    let new = c.fill_parent.new.parent in
    let within : before ns < length ns = omega (arith, c.if-at-nodes.false, c.before_images-at.ensures) in
    let is : get_or ns c.before_images-at.result d ≡ get_or ns (before ns) d = ap (λ (k : ℕ). get_or ns k d) c.before_images-at.ensures in
    on-ok c.fill_parent.result
    (λ same. ap (λ (k : ℕ). zeroed_below c.args.naming (siblings (set ns k new))) c.before_images-at.ensures
    ∙ below-zeroed c.args.naming (each (filled_over c.args.naming no_files)) ns d new within (same ∙ ap (λ (n : Node _). zeroed_parent c.args.naming (with_children (each (filled_over c.args.naming no_files)) n)) is))
    c.fill_parent.ensures.rest

pub returns-then-at-nodes-clause-opened : goal.returns-then-at-nodes-clause-opened
returns-then-at-nodes-clause-opened g c = each_unopened _ _

pub returns-clause-opened : goal.returns-clause-opened
returns-clause-opened g c =
    let ns = c.args.nodes.now in
    let d = c.index-nodes-at.result in
    let m = g.F.Files.map c.args.files.now in
    let n = g.F.Files.map c.fill_parent.new.files in
    let e = is_err c.fill_parent.result in
    let within : before ns < length ns = omega (arith, c.if-at-nodes.false, c.before_images-at.ensures) in
    let is : get_or ns c.before_images-at.result d ≡ get_or ns (before ns) d = ap (λ (k : ℕ). get_or ns k d) c.before_images-at.ensures in
    subst (λ (o : Option (List (NodeOf Content))). OpensEach e (summed_files o) m n) (sym (among-found ns d within))
    (subst (λ (p : Node _). OpensEach e (summed_files (Some (listed p.children))) m n) is c.fill_parent.ensures.opened)
