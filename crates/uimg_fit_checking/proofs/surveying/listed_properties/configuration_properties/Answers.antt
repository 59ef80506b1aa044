use Rattle.std.proofs.Common.{sym, ap, subst, List}
use Rattle.uimg_base.specs.declared.spans.Span.{Span}
use Rattle.uimg_blob_reading.specs.LookUps.{listed}
use Rattle.uimg_blob_reading.specs.Plain.{NamedOf}
use Rattle.uimg_blob_reading.specs.Roles.{Level}
use Rattle.uimg_fit_checking.specs.FullSurvey.{properties_in, TellsLists}
use Rattle.uimg_fit_reading.specs.Nodes.{AreFrom}
use Rattle.uimg_fit_checking.proofs.surveying.listed_properties.configuration_properties.Goals as goal

pub returns-clause-told : goal.returns-clause-told
returns-clause-told g c = λ t opened.
    let d = g.S.Source.device c.args.source.now in
    let e = g.S.Source.device c.gather_properties.new.source in
    let has = c.in-Some.ensures.told t opened.read.indexed in
    let from = c.child_of.ensures.children t opened.read.indexed has.level has.found has.node in
    let children = subst (λ (l : Level). AreFrom t l c.child_of.result (listed has.found.below)) has.children from in
    subst (λ (said : List (List (NamedOf Span))). TellsLists d e said c.gather_properties.result) (sym (ap properties_in has.is))
    (c.gather_properties.ensures.told t opened (listed has.found.below) children)
