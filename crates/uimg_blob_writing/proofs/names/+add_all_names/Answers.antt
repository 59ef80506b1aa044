use Rattle.std.proofs.Common.{◌≡◌, ◌<◌, map, drop, ℕ, suc, ◌+◌, ◌∙◌, ap, sym, subst, List, [], ◌∷◌, Bor, arith, length}
use Rattle.std.proofs.{lemmas.List.drop_more, Math.ListN.drop_of_length-le}
use Rattle.uimg_blob_writing.specs.{declared.tree.Node.Node, Encoding.{with_names, with_names_in}}
use Rattle.uimg_blob_writing.specs.{Content.{Unread, count}, Trees.siblings, Names.name_texts}
use Rattle.uimg_blob_writing.proofs.{NameLaws.{on-err, length-with_names_in}, NodeLaws.count-at}
use Rattle.uimg_blob_writing.proofs.names.+add_all_names.Goals as goal

pub add_all_names-requires : goal.add_all_names-requires
add_all_names-requires g t c κs within =
    let items = c.items-node-items.result.now in
    let i = c.loop-node.node-index in
    let d = c.node-item.result in
    let less = subst (λ (n : Node g.row.A.Denot). suc (count n.children) < count (siblings items)) (sym c.node-item.is) (count-at items i d c.loop-node-test.true) in
    let whole : count (siblings items) ≡ count c.args.this.node.now.children = ap (λ (l : Unread). count l) c.items-node-items.ensures in
    let below : suc (count d.children) < t = omega (arith, less, whole, c.decreases) in
    (below, within)

pub loop-node-preserved : goal.loop-node-preserved
unfolding with_names_in
loop-node-preserved g t c =
    let items = c.items-node-items.result.now in
    let i = c.loop-node.node-index in
    let d = c.node-item.result in
    let rest = siblings (drop (i + 1) items) in
    let now : List (Bor (List ℕ)) → List (List ℕ) = λ l. map (λ n. n.now) l in
    let more : drop i items ≡ d ∷ drop (i + 1) items = drop_more items i d c.loop-node-test.true ∙ ap (λ (p : Node g.row.A.Denot). p ∷ drop (i + 1) items) (sym c.node-item.is) in
    ap (λ (l : List (List ℕ)). with_names_in l rest) c.in_ok-add_all_names.ensures.added
    ∙ sym (ap (λ (l : List (Node g.row.A.Denot)). with_names_in (now c.loop-node.names.items) (siblings l)) more)
    ∙ c.loop-node.invariant

pub returns-clause-added : goal.returns-clause-added
unfolding with_names_in
returns-clause-added g t c =
    let items = c.items-node-items.result.now in
    let i = c.loop-node.node-index in
    let node = c.args.this.node.now in
    let now : List (Bor (List ℕ)) → List (List ℕ) = λ l. map (λ n. n.now) l in
    let none : drop i items ≡ [] = drop_of_length-le items {i = i} c.loop-node-test.false in
    sym (ap (λ (l : List (Node g.row.A.Denot)). with_names_in (now c.loop-node.names.items) (siblings l)) none)
    ∙ c.loop-node.invariant
    ∙ ap (λ (l : Unread). with_names_in (with_names (now c.args.names.now.items) node.props) l) c.items-node-items.ensures

pub returns-in_err-add_names-clause-memory : goal.returns-in_err-add_names-clause-memory
unfolding with_names_in
returns-in_err-add_names-clause-memory g t c =
    let node = c.args.this.node.now in
    let old = name_texts c.args.names.now.items in
    on-err c.from_residual.result (omega (arith, c.in_err-add_names.ensures.memory, length-with_names_in (with_names old node.props) node.children))

pub returns-in_err-add_all_names-clause-memory : goal.returns-in_err-add_all_names-clause-memory
unfolding with_names_in
returns-in_err-add_all_names-clause-memory g t c =
    let items = c.items-node-items.result.now in
    let i = c.loop-node.node-index in
    let d = c.node-item.result in
    let node = c.args.this.node.now in
    let rest = siblings (drop (i + 1) items) in
    let old = name_texts c.args.names.now.items in
    let now = name_texts c.loop-node.names.items in
    let more : drop i items ≡ d ∷ drop (i + 1) items = drop_more items i d c.loop-node-test.true ∙ ap (λ (p : Node g.row.A.Denot). p ∷ drop (i + 1) items) (sym c.node-item.is) in
    let one = with_names_in (with_names now d.props) d.children in
    let whole : with_names_in one rest ≡ with_names_in (with_names old node.props) node.children =
    sym (ap (λ (l : List (Node g.row.A.Denot)). with_names_in now (siblings l)) more)
    ∙ c.loop-node.invariant ∙ ap (λ (l : Unread). with_names_in (with_names old node.props) l) c.items-node-items.ensures in
    on-err c.from_residual-in_err-add_all_names.result
    (omega (arith, c.in_err-add_all_names.ensures.memory, length-with_names_in one rest, ap length whole))
