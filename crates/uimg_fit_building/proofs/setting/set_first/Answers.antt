use Rattle.std.proofs.Common.{rules, arith, ◌∙◌, subst, ap, map, ◌≡◌, List, ℕ}
use Rattle.uimg_blob_writing.specs.{declared.props.Prop.Prop, Properties.property}
use Rattle.uimg_fit_building.proofs.FilledHashLaws.{on-ok}
use Rattle.uimg_fit_building.proofs.SettingLaws.{set-property, push-property, IsSetAt}
use Rattle.uimg_fit_building.proofs.setting.set_first.Goals as goal

pub returns-then-at-len : goal.returns-then-at-len
returns-then-at-len g c =
    let items : c.items.result.now ≡ c.args.prop.name = search rules in
    let all : c.as_slice.result.now ≡ c.args.list.now.items = search rules in
    let is = subst (λ (k : List ℕ). IsSetAt k c.args.list.now.items c.place_of-at.result) items
    (subst (λ (l : List (Prop _)). IsSetAt c.items.result.now l c.place_of-at.result) all c.place_of-at.ensures.set) in
    record {
      made = set-property c.args.list.now.items c.place_of-at.result c.args.prop is (omega arith);
      memory = search rules;
    }

pub returns : goal.returns
returns g c =
    let items : c.items.result.now ≡ c.args.prop.name = search rules in
    let all : c.as_slice.result.now ≡ c.args.list.now.items = search rules in
    let is = subst (λ (k : List ℕ). IsSetAt k c.args.list.now.items c.place_of-at.result) items
    (subst (λ (l : List (Prop _)). IsSetAt c.items.result.now l c.place_of-at.result) all c.place_of-at.ensures.set) in
    record {
      made = on-ok c.push_property.result (λ pushed. ap (map property) pushed ∙ push-property c.args.list.now.items c.place_of-at.result c.args.prop is (omega arith)) c.push_property.ensures.made;
      memory = c.push_property.ensures.memory;
    }
