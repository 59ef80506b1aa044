use Rattle.std.proofs.Common.{ap, ◌∙◌}
use Rattle.std.specs.Option.{option_map}
use Rattle.uimg_strict.specs.Looseness.{loose_names, loose_node}
use Rattle.uimg_strict.specs.Telling.{read_loose}
use Rattle.uimg_strict.proofs.PassLaws.{own_passed}
use Rattle.uimg_strict.proofs.nodes.loose_node.Goals as goal

pub returns-in_err-names-clause-told : goal.returns-in_err-names-clause-told
returns-in_err-names-clause-told g c = λ t o level found n.
    own_passed (option_map read_loose) (loose_node found) c.from_residual.result c.in_err-names.field-0.0 c.from_residual.ensures.1 (c.in_err-names.ensures.told t o level found n)

pub returns-clause-told : goal.returns-clause-told
returns-clause-told g c = λ t o level found n.
    c.in_ok-found.ensures ∙ ap loose_names (c.in_ok-names.ensures.told t o level found n)
