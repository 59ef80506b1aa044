use Rattle.std.proofs.{Common.{◌≡◌, ◌∷◌, ◌+◌, ◌∙◌, List, ap, sym, drop, map}, lemmas.List.drop_more}
use Rattle.std.proofs.Math.ListN.{drop_of_length-le}
use Rattle.uimg_blob_reading.specs.Plain.{NamedOf}
use Rattle.uimg_blob_writing.specs.{declared.props.Prop.Prop, Content.Content, Properties.property}
use Rattle.uimg_fit_building.specs.{Placing.{is_data, cells}, UnreadTrees.unread_own}
use Rattle.uimg_fit_building.proofs.PlacingLaws.{behind-goes, before-goes, first-goes, no-more, own-placed}
use Rattle.uimg_fit_building.proofs.building.placing.place_properties.Goals as goal
use Rattle.uimg_fit_building.proofs.building.placing.place_properties.Goals.{then-not-moved+then-is_data+in_ok-add_cells, else-not-moved+in_ok-copy+in_ok-push, else-not-moved-via-then-not-moved+else-is_data, else-not-moved-via-else-not-moved}

pub loop-prop-preserved : goal.loop-prop-preserved
loop-prop-preserved g c =
    let f = cells {A = g.row.A.Denot} c.args.key.now c.args.at in
    let items = c.items-prop-items.result.now in
    let i = c.loop-prop.prop-index in
    let d = c.prop-item.result in
    let more : drop i items ≡ d ∷ drop (i + 1) items = drop_more items i d c.loop-prop-test.true ∙ ap (λ (p : Prop g.row.A.Denot). p ∷ drop (i + 1) items) (sym c.prop-item.is) in
    elim c.if-not-moved.branch [
      | then-not-moved+then-is_data+in_ok-add_cells w ↦
          first-goes is_data f c.loop-prop.copies.items (drop (i + 1) items) _ (drop i items) c.if-not-moved.copies.items d d c.loop-prop.moved c.if-not-moved.moved more c.loop-prop.invariant
          w.if-not-moved.true (sym w.is_data.ensures ∙ w.if-is_data.true) w.moved-is (ap (λ v. v.items) w.copies-is ∙ w.in_ok-add_cells.ensures)
      | else-not-moved+in_ok-copy+in_ok-push w ↦
          elim w.else-not-moved.branch [
            | else-not-moved-via-then-not-moved+else-is_data h ↦
                before-goes is_data f c.loop-prop.copies.items (drop (i + 1) items) _ (drop i items) c.if-not-moved.copies.items d w.in_ok-copy.copy c.loop-prop.moved c.if-not-moved.moved more c.loop-prop.invariant
                h.if-not-moved.true (sym h.is_data.ensures ∙ h.if-is_data.false) w.moved-is (ap (λ v. v.items) w.copies-is ∙ w.in_ok-push.ensures.items) w.in_ok-copy.ensures
            | else-not-moved-via-else-not-moved h ↦
                behind-goes is_data f c.loop-prop.copies.items (drop (i + 1) items) _ (drop i items) c.if-not-moved.copies.items d w.in_ok-copy.copy c.loop-prop.moved c.if-not-moved.moved more c.loop-prop.invariant
                h.if-not-moved.false w.moved-is (ap (λ v. v.items) w.copies-is ∙ w.in_ok-push.ensures.items) w.in_ok-copy.ensures
          ]
    ]

pub returns : goal.returns
returns g c =
    let key = c.args.key.now in
    let at = c.args.at in
    let items = c.items-prop-items.result.now in
    let i = c.loop-prop.prop-index in
    let whole = no-more is_data (cells key at) c.loop-prop.copies.items _ c.loop-prop.moved (drop i items) (drop_of_length-le items {i = i} c.loop-prop-test.false) c.loop-prop.invariant in
    c.of.ensures ∙ ap (λ (l : List (Prop g.row.A.Denot)). map property l) whole ∙ own-placed key at items
    ∙ ap (λ (l : List (NamedOf Content)). unread_own key at l) c.items-prop-items.ensures
