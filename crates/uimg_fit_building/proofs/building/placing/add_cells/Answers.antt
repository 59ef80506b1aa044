use Rattle.std.proofs.Common.{◌≡◌, ◌++◌, ◌%◌, ℕ, List, [], ◌∷◌, ap, ◌∙◌, append_assoc, codes}
use Rattle.uimg_blob_writing.specs.declared.props.{Prop.Prop, Value.TheVariants.Bytes}
use Rattle.uimg_blob_writing.specs.{Content.size_of, Properties.content}
use Rattle.uimg_fit_building.specs.Placing.{cell_property}
use Rattle.uimg_fit_building.proofs.PlacingLaws.{word-low}
use Rattle.uimg_fit_building.proofs.building.placing.add_cells.Goals as goal

pub returns : goal.returns
returns g c =
    let old = c.args.props.now.items in
    let n = size_of (content c.args.payload.now.value) in
    let sized : List ℕ → Prop g.row.A.Denot = λ w. record { name = codes "data-size"; value = Bytes w } in
    let size : c.in_ok-size.size ≡ cell_property (codes "data-size") n =
    c.in_ok-size.ensures ∙ ap (λ (k : ℕ). cell_property {A = g.row.A.Denot} (codes "data-size") (k % 4294967296)) c.value_size.ensures ∙ ap sized (word-low n) in
    c.in_ok-push-2.ensures.items
    ∙ ap (λ (l : List (Prop g.row.A.Denot)). l ++ c.in_ok-size.size ∷ []) c.in_ok-push.ensures.items
    ∙ append_assoc old (c.in_ok-place.place ∷ []) (c.in_ok-size.size ∷ [])
    ∙ ap (λ (p : Prop g.row.A.Denot). old ++ (p ∷ c.in_ok-size.size ∷ [])) c.in_ok-place.ensures
    ∙ ap (λ (p : Prop g.row.A.Denot). old ++ (cell_property c.args.key.now c.args.at ∷ p ∷ [])) size
