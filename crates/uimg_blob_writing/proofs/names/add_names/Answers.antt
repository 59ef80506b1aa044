use Rattle.std.proofs.Common.{◌≡◌, map, drop, ℕ, ◌+◌, ◌∙◌, ap, sym, List, [], ◌∷◌, Bor, length, arith, ◌<◌, subst}
use Rattle.std.proofs.{lemmas.List.drop_more, Math.ListN.drop_of_length-le}
use Rattle.uimg_blob_writing.specs.{declared.props.Prop.Prop, Content.Content, Properties.property}
use Rattle.uimg_blob_writing.specs.{Names.name_texts, Encoding.{with_name, with_names}}
use Rattle.uimg_blob_reading.specs.Plain.{NamedOf}
use Rattle.uimg_blob_writing.proofs.NameLaws.{on-err, length-with_names}
use Rattle.uimg_blob_writing.proofs.names.add_names.Goals as goal

pub loop-prop-preserved : goal.loop-prop-preserved
unfolding with_names
loop-prop-preserved g c =
    let items = c.items-prop-items.result.now in
    let i = c.loop-prop.prop-index in
    let d = c.prop-item.result in
    let rest = map property (drop (i + 1) items) in
    let now : List (Bor (List ℕ)) → List (List ℕ) = λ l. map (λ n. n.now) l in
    let more : drop i items ≡ d ∷ drop (i + 1) items = drop_more items i d c.loop-prop-test.true ∙ ap (λ (p : Prop g.row.A.Denot). p ∷ drop (i + 1) items) (sym c.prop-item.is) in
    let here : now c.add_name.new.names.items ≡ with_name (now c.loop-prop.names.items) d.name = c.in_ok-add_name.ensures.added ∙ ap (λ (n : List ℕ). with_name (now c.loop-prop.names.items) n) c.items.ensures in
    ap (λ (l : List (List ℕ)). with_names l rest) here
    ∙ sym (ap (λ (l : List (Prop g.row.A.Denot)). with_names (now c.loop-prop.names.items) (map property l)) more)
    ∙ c.loop-prop.invariant

pub returns-clause-added : goal.returns-clause-added
unfolding with_names
returns-clause-added g c =
    let items = c.items-prop-items.result.now in
    let i = c.loop-prop.prop-index in
    let now : List (Bor (List ℕ)) → List (List ℕ) = λ l. map (λ n. n.now) l in
    let none : drop i items ≡ [] = drop_of_length-le items {i = i} c.loop-prop-test.false in
    sym (ap (λ (l : List (Prop g.row.A.Denot)). with_names (now c.loop-prop.names.items) (map property l)) none)
    ∙ c.loop-prop.invariant
    ∙ ap (λ (l : List (NamedOf Content)). with_names (now c.args.names.now.items) l) c.items-prop-items.ensures

pub returns-in_err-add_name-clause-memory : goal.returns-in_err-add_name-clause-memory
unfolding with_names
returns-in_err-add_name-clause-memory g c =
    let items = c.items-prop-items.result.now in
    let i = c.loop-prop.prop-index in
    let d = c.prop-item.result in
    let rest = map property (drop (i + 1) items) in
    let old = name_texts c.args.names.now.items in
    let now = name_texts c.loop-prop.names.items in
    let more : drop i items ≡ d ∷ drop (i + 1) items = drop_more items i d c.loop-prop-test.true ∙ ap (λ (p : Prop g.row.A.Denot). p ∷ drop (i + 1) items) (sym c.prop-item.is) in
    let whole : with_names (with_name now d.name) rest ≡ with_names old c.args.props.now =
    sym (ap (λ (l : List (Prop g.row.A.Denot)). with_names now (map property l)) more)
    ∙ c.loop-prop.invariant ∙ ap (λ (l : List (NamedOf Content)). with_names old l) c.items-prop-items.ensures in
    let some : 0 < length (with_name now d.name) = subst (λ (n : List ℕ). 0 < length (with_name now n)) c.items.ensures c.in_err-add_name.ensures.memory in
    on-err c.from_residual.result (omega (arith, some, length-with_names (with_name now d.name) rest, ap length whole))
