use Rattle.std.proofs.Common.{refl, ◌∙◌}
use Rattle.uimg_blob_reading.specs.LookUps.{listed}
use Rattle.uimg_fit_reading.proofs.OpenedLaws.{still}
use Rattle.uimg_strict.specs.Looseness.{node_said}
use Rattle.uimg_strict.specs.Telling.{read_names}
use Rattle.uimg_strict.proofs.PassLaws.{own_passed}
use Rattle.uimg_strict.proofs.node_names.names_of.Goals as goal

pub returns-in_err-properties-clause-told : goal.returns-in_err-properties-clause-told
returns-in_err-properties-clause-told g c = λ t o level found n.
    let first = still c.in_ok-name.ensures.uses.same refl o in
    let second = still c.in_ok-children.ensures.uses.same refl first in
    own_passed read_names (node_said found) c.from_residual-in_err-properties.result c.in_err-properties.field-0.0 c.from_residual-in_err-properties.ensures.1
    (c.in_err-properties.ensures.told t second level found n)

pub returns-clause-told : goal.returns-clause-told
returns-clause-told g c = λ t o level found n.
    let d = g.S.Source.device c.args.source.now in
    let first = still c.in_ok-name.ensures.uses.same refl o in
    let second = still c.in_ok-children.ensures.uses.same refl first in
    rw (c.in_ok-name.ensures.told o.honest ∙ c.name_of.ensures.name d.bytes t o.read level found n)
    (rw (c.in_ok-children.ensures.told t first (listed found.below) (record { level = _; from = c.child_of.ensures.children t o.read.indexed level found n }))
    (rw (c.in_ok-properties.ensures.told t second level found n) refl))
