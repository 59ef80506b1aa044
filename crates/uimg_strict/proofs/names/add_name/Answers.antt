use Rattle.std.proofs.Common.{ℕ, List, Bool, ◌||◌, Vec, Global, ap, ◌∙◌}
use Rattle.std.specs.List.{list_any}
use Rattle.std.specs.Str.{bytes_eq}
use Rattle.uimg_strict.specs.Names.{in_set}
use Rattle.uimg_strict.proofs.SetLaws.{any_inserted, same_name}
use Rattle.uimg_strict.proofs.names.add_name.Goals as goal

pub returns-in-Ok : goal.returns-in-Ok
returns-in-Ok c = λ name.
    let known : Vec ℕ Global → Bool = λ k. bytes_eq name k.items in
    ap (list_any known) c.in-Ok.ensures.keys
    ∙ any_inserted _ known (λ x y is. same_name name x.items y.items is) c.in_ok-copy.copy c.args.names.now.keys
    ∙ ap (λ (items : List ℕ). bytes_eq name items || in_set c.args.names.now name) c.in_ok-copy.ensures.items
