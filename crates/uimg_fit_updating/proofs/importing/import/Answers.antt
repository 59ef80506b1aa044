use Rattle.std.proofs.Common.{◌≡◌, ◌∙◌, List, length, codes, ap, sym, subst, arith}
use Rattle.uimg_blob_reading.specs.Plain.{no_node, a_node, AllValues}
use Rattle.uimg_blob_writing.specs.{declared.tree.Node.Node, Content.{Unread, IsBytes}, Trees.siblings}
use Rattle.uimg_fit_building.specs.Filling.{each, in_first}
use Rattle.uimg_fit_building.proofs.EachLaws.{written-back}
use Rattle.uimg_fit_updating.specs.Importing.{imported}
use Rattle.uimg_fit_updating.proofs.importing.import.Goals as goal

pub returns-clause-in_memory : goal.returns-clause-in_memory
returns-clause-in_memory g c = λ all.
    let below : siblings c.as_mut_slice.result.now ≡ c.args.tree.root.children = ap siblings c.as_mut_slice.ensures.value ∙ c.into_vec-nodes.ensures in
    let slots = c.as_mut_slice.ensures in
    let long : length c.into_vec-nodes.result.items ≡ c.into_vec-nodes.result.len = ap (λ (l : List (Node _)). length l) (sym slots.value) ∙ slots.len in
    let back = written-back c.into_vec-nodes.result.len c.import_below.new.nodes c.into_vec-nodes.result.items (omega (arith, long, slots.len, c.import_below.auto.nodes)) long (omega (arith, slots.len, c.import_below.auto.nodes)) in
    (all.0, subst (AllValues IsBytes) (sym (c.of-children.ensures ∙ ap siblings back)) (c.in_ok-import_below.ensures.in_memory (subst (AllValues IsBytes) (sym below) all.1)), tt)

pub returns-clause-told : goal.returns-clause-told
returns-clause-told g c = λ honest.
    let f = each (imported (g.S.Source.device c.args.source.now).bytes c.args.totalsize) in
    let root = c.args.tree.root in
    let below : siblings c.as_mut_slice.result.now ≡ root.children = ap siblings c.as_mut_slice.ensures.value ∙ c.into_vec-nodes.ensures in
    let slots = c.as_mut_slice.ensures in
    let long : length c.into_vec-nodes.result.items ≡ c.into_vec-nodes.result.len = ap (λ (l : List (Node _)). length l) (sym slots.value) ∙ slots.len in
    let back = written-back c.into_vec-nodes.result.len c.import_below.new.nodes c.into_vec-nodes.result.items (omega (arith, long, slots.len, c.import_below.auto.nodes)) long (omega (arith, slots.len, c.import_below.auto.nodes)) in
    ap (λ (t : Unread). a_node root.name root.props t no_node)
    (c.of-children.ensures ∙ ap siblings back ∙ c.in_ok-import_below.ensures.told honest ∙ ap (λ (t : Unread). in_first (codes "images") f t) below)
