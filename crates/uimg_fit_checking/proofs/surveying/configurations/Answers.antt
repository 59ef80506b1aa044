use Rattle.std.proofs.Common.{sym, ap, ◌∙◌, subst}
use Rattle.uimg_blob_reading.specs.LookUps.{listed}
use Rattle.uimg_blob_reading.specs.Roles.{Level}
use Rattle.uimg_fit_reading.specs.Nodes.{AreFrom}
use Rattle.uimg_fit_checking.specs.Survey.{preferred_in, configurations_in}
use Rattle.uimg_fit_checking.proofs.surveying.configurations.Goals as goal

pub returns-clause-said : goal.returns-clause-said
returns-clause-said g c = λ file t read.
    let has = c.in-Some.ensures.told t read.indexed in
    let from = c.child_of.ensures.children t read.indexed has.level has.found has.node in
    let children = subst (λ (l : Level). AreFrom t l c.child_of.result (listed has.found.below)) has.children from in (
      sym (c.value_of-preferred.ensures.bytes file t read has.level has.found has.node has.keeps) ∙ ap preferred_in (sym has.is),
      c.in_ok-all.ensures.said file t read (listed has.found.below) children ∙ ap configurations_in (sym has.is),
    )
