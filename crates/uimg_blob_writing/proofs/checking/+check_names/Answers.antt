use Rattle.std.proofs.Common.{◌≡◌, ◌<◌, ◌+◌, suc, drop, ◌∙◌, ap, sym, subst, List, [], ◌∷◌, ℕ, true, false, Option, Some, arith}
use Rattle.std.proofs.{lemmas.List.drop_more, Math.ListN.drop_of_length-le}
use Rattle.std.specs.Option.{option_or}
use Rattle.uimg_blob_reading.specs.{declared.fault.BlobFault.BlobFault, Plain.no_node}
use Rattle.uimg_blob_writing.specs.{declared.tree.Node.Node, Content.{Unread, count}}
use Rattle.uimg_blob_writing.specs.{Trees.siblings, Measured.{is_name, bad_name}}
use Rattle.uimg_blob_writing.proofs.NodeLaws.{count-at}
use Rattle.uimg_blob_writing.proofs.MeasuredLaws.{node-bad, bad_name-more, bad_name-below, bad_name-properties, bad_name-none, fault-err}
use Rattle.uimg_blob_writing.proofs.checking.+check_names.Goals as goal

pub returns-then-not-is_name : goal.returns-then-not-is_name
returns-then-not-is_name g t c =
    let node = c.args.this.node.now in
    let bad : is_name node.name ≡ false = ap (λ (n : List ℕ). is_name n) (sym c.items.ensures) ∙ sym c.is_name.ensures ∙ c.if-not-is_name.true in
    sym (node-bad node.name node.props node.children no_node bad)

pub returns-in_err-check_properties : goal.returns-in_err-check_properties
returns-in_err-check_properties g t c =
    let node = c.args.this.node.now in
    let good : is_name node.name ≡ true = ap (λ (n : List ℕ). is_name n) (sym c.items.ensures) ∙ sym c.is_name.ensures ∙ c.if-not-is_name.false in
    fault-err c.from_residual.result c.in_err-check_properties.field-0.0 c.from_residual.ensures.1
    ∙ sym (bad_name-properties node c.in_err-check_properties.field-0.0 good c.in_err-check_properties.ensures)

pub check_names-requires : goal.check_names-requires
check_names-requires g t c κs within =
    let items = c.items-node-items.result.now in
    let i = c.loop-node.node-index in
    let d = c.node-item.result in
    let less = subst (λ (n : Node g.row.A.Denot). suc (count n.children) < count (siblings items)) (sym c.node-item.is) (count-at items i d c.loop-node-test.true) in
    let whole : count (siblings items) ≡ count c.args.this.node.now.children = ap (λ (l : Unread). count l) c.items-node-items.ensures in
    let below : suc (count d.children) < t = omega (arith, less, whole, c.decreases) in
    (below, within)

pub returns-in_err-check_names : goal.returns-in_err-check_names
returns-in_err-check_names g t c =
    let node = c.args.this.node.now in
    let items = c.items-node-items.result.now in
    let i = c.loop-node.node-index in
    let d = c.node-item.result in
    let f = c.in_err-check_names.field-0.0 in
    let good : is_name node.name ≡ true = ap (λ (n : List ℕ). is_name n) (sym c.items.ensures) ∙ sym c.is_name.ensures ∙ c.if-not-is_name.false in
    let more : drop i items ≡ d ∷ drop (i + 1) items = drop_more items i d c.loop-node-test.true ∙ ap (λ (p : Node g.row.A.Denot). p ∷ drop (i + 1) items) (sym c.node-item.is) in
    let here : bad_name (siblings (drop i items)) ≡ Some f =
    ap (λ (l : List (Node g.row.A.Denot)). bad_name (siblings l)) more ∙ bad_name-more d (drop (i + 1) items)
    ∙ ap (λ (o : Option BlobFault). option_or o (bad_name (siblings (drop (i + 1) items)))) (sym c.in_err-check_names.ensures) in
    fault-err c.from_residual-in_err-check_names.result f c.from_residual-in_err-check_names.ensures.1
    ∙ sym here ∙ c.loop-node.invariant
    ∙ ap (λ (l : Unread). bad_name l) c.items-node-items.ensures
    ∙ sym (bad_name-below node good c.in_ok-check_properties.ensures)

pub loop-node-preserved : goal.loop-node-preserved
loop-node-preserved g t c =
    let items = c.items-node-items.result.now in
    let i = c.loop-node.node-index in
    let d = c.node-item.result in
    let more : drop i items ≡ d ∷ drop (i + 1) items = drop_more items i d c.loop-node-test.true ∙ ap (λ (p : Node g.row.A.Denot). p ∷ drop (i + 1) items) (sym c.node-item.is) in
    ap (λ (o : Option BlobFault). option_or o (bad_name (siblings (drop (i + 1) items)))) c.in_ok-check_names.ensures
    ∙ sym (bad_name-more d (drop (i + 1) items))
    ∙ sym (ap (λ (l : List (Node g.row.A.Denot)). bad_name (siblings l)) more)
    ∙ c.loop-node.invariant

pub returns : goal.returns
returns g t c =
    let node = c.args.this.node.now in
    let items = c.items-node-items.result.now in
    let i = c.loop-node.node-index in
    let good : is_name node.name ≡ true = ap (λ (n : List ℕ). is_name n) (sym c.items.ensures) ∙ sym c.is_name.ensures ∙ c.if-not-is_name.false in
    let none : drop i items ≡ [] = drop_of_length-le items {i = i} c.loop-node-test.false in
    sym bad_name-none
    ∙ sym (ap (λ (l : List (Node g.row.A.Denot)). bad_name (siblings l)) none)
    ∙ c.loop-node.invariant
    ∙ ap (λ (l : Unread). bad_name l) c.items-node-items.ensures
    ∙ sym (bad_name-below node good c.in_ok-check_properties.ensures)
