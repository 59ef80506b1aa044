use Rattle.std.proofs.Common.{ℕ, List, Bool, ◌||◌, Vec, Global, ap, ◌∙◌}
use Rattle.std.specs.List.{list_any}
use Rattle.std.specs.Str.{bytes_eq}
use Rattle.uimg_checks.specs.ReferenceNames.{has_name}
use Rattle.uimg_strict.proofs.SetLaws.{any_inserted, same_name}
use Rattle.uimg_checks.proofs.references.names.add_name.Goals as goal

pub returns-clause-told : goal.returns-clause-told
returns-clause-told g c = λ honest name.
    let known : Vec ℕ Global → Bool = λ k. bytes_eq name k.items in
    ap (list_any known) c.in-Ok.ensures.keys
    ∙ any_inserted _ known (λ x y is. same_name name x.items y.items is) c.in_ok-name.name c.args.names.now.keys
    ∙ ap (λ (items : List ℕ). bytes_eq name items || has_name c.args.names.now name) (c.in_ok-name.ensures.told honest)
