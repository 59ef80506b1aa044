use Rattle.std.proofs.Common.{◌≡◌, ◌+◌, map, drop, ◌∙◌, ap, sym, List, [], ◌∷◌, ℕ, true, false}
use Rattle.std.proofs.{lemmas.List.drop_more, Math.ListN.drop_of_length-le}
use Rattle.uimg_blob_writing.specs.{declared.props.Prop.Prop, Content.Content, Properties.property}
use Rattle.uimg_blob_writing.specs.Measured.{is_name, bad_property}
use Rattle.uimg_blob_reading.specs.Plain.{NamedOf}
use Rattle.uimg_blob_writing.proofs.MeasuredLaws.{property-good, property-bad, property-none}
use Rattle.uimg_blob_writing.proofs.checking.check_properties.Goals as goal

pub returns-then-not-is_name : goal.returns-then-not-is_name
returns-then-not-is_name g c =
    let items = c.items-prop-items.result.now in
    let i = c.loop-prop.prop-index in
    let d = c.prop-item.result in
    let more : drop i items ≡ d ∷ drop (i + 1) items = drop_more items i d c.loop-prop-test.true ∙ ap (λ (p : Prop g.row.A.Denot). p ∷ drop (i + 1) items) (sym c.prop-item.is) in
    let bad : is_name d.name ≡ false = ap (λ (n : List ℕ). is_name n) (sym c.items.ensures) ∙ sym c.is_name.ensures ∙ c.if-not-is_name.true in
    sym (property-bad (property d) (map property (drop (i + 1) items)) bad)
    ∙ sym (ap (λ (l : List (Prop g.row.A.Denot)). bad_property (map property l)) more)
    ∙ c.loop-prop.invariant
    ∙ ap (λ (l : List (NamedOf Content)). bad_property l) c.items-prop-items.ensures

pub loop-prop-preserved : goal.loop-prop-preserved
loop-prop-preserved g c =
    let items = c.items-prop-items.result.now in
    let i = c.loop-prop.prop-index in
    let d = c.prop-item.result in
    let more : drop i items ≡ d ∷ drop (i + 1) items = drop_more items i d c.loop-prop-test.true ∙ ap (λ (p : Prop g.row.A.Denot). p ∷ drop (i + 1) items) (sym c.prop-item.is) in
    let good : is_name d.name ≡ true = ap (λ (n : List ℕ). is_name n) (sym c.items.ensures) ∙ sym c.is_name.ensures ∙ c.if-not-is_name.false in
    sym (property-good (property d) (map property (drop (i + 1) items)) good)
    ∙ sym (ap (λ (l : List (Prop g.row.A.Denot)). bad_property (map property l)) more)
    ∙ c.loop-prop.invariant

pub returns : goal.returns
returns g c =
    let items = c.items-prop-items.result.now in
    let i = c.loop-prop.prop-index in
    let none : drop i items ≡ [] = drop_of_length-le items {i = i} c.loop-prop-test.false in
    sym property-none
    ∙ sym (ap (λ (l : List (Prop g.row.A.Denot)). bad_property (map property l)) none)
    ∙ c.loop-prop.invariant
    ∙ ap (λ (l : List (NamedOf Content)). bad_property l) c.items-prop-items.ensures
