use Rattle.std.proofs.Common.{rules, ◌≡◌, ◌∙◌, List, ap, subst, arith}
use Rattle.uimg_blob_reading.specs.Plain.{NamedOf}
use Rattle.uimg_blob_writing.specs.{declared.props.Prop.Prop, Content.Content, Properties.property}
use Rattle.uimg_fit_updating.specs.Importing.{replaced, IsReplacedAt}
use Rattle.uimg_fit_updating.proofs.ImportLaws.{replaced_at}
use Rattle.uimg_fit_updating.proofs.importing.replaced.Goals as goal

pub returns-then-at-len : goal.returns-then-at-len
returns-then-at-len c =
    let key = c.args.key.now in
    let items = c.into_vec-list.result.items in
    let at = c.place_of-at.result in
    let all : c.as_slice.result.now ≡ items = search rules in
    let is = subst (λ (l : List (Prop _)). IsReplacedAt key l at) all c.place_of-at.ensures.set in
    c.of.ensures ∙ replaced_at key items at c.args.prop is (omega arith)
    ∙ ap (λ (own : List (NamedOf Content)). replaced key (property c.args.prop) own) c.into_vec-list.ensures
