use Rattle.std.proofs.{Common.{rules, ◌∙◌, ap, map}, lemmas.Fn.filter_same}
use Rattle.uimg_blob_writing.specs.Properties.{property}
use Rattle.uimg_fit_building.proofs.SettingLaws.{external-kept, kept-external}
use Rattle.uimg_fit_building.proofs.setting.remove_external.Goals as goal

pub returns : goal.returns
returns g c =
    ap (map property) (filter_same _ external-kept _ (λ x b f' k. search rules) _ _ c.retain.ensures.filtered)
    ∙ kept-external c.args.list.now.items
