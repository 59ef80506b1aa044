use Rattle.std.proofs.Common.{ℕ, Err, Vec, Global, false, sym, subst}
use Rattle.std.specs.List.{All}
use Rattle.uimg_blob_reading.specs.declared.places.PropertyPlace.{PropertyPlace}
use Rattle.uimg_fit_checking.specs.FullSurvey.{PlacesInside}
use Rattle.uimg_fit_checking.specs.SurveyParts.{is_unread}
use Rattle.uimg_fit_checking.proofs.FullSurveyLaws.{all_asked, uses_more}
use Rattle.uimg_fit_checking.proofs.surveying.survey_with_properties.Goals as goal

pub returns-in-Ok-clause-uses : goal.returns-in-Ok-clause-uses
returns-in-Ok-clause-uses g c =
    let first = c.in_ok-blob.ensures in
    let e = g.S.Source.device c.read_tree.new.source in
    let more = c.configuration_properties.ensures in
    uses_more _ false first.inspects.uses c.in-Ok.ensures.leaves.uses
    (λ honest. all_asked (g.S.Source.device c.args.source.now) e (g.S.Source.device c.configuration_properties.new.source) c.in_ok-blob.blob c.read_tree.new.room c.configuration_properties.result
    first.inspects.uses.same (first.gives honest) more.told honest)

pub returns-in-Err-clause-uses : goal.returns-in-Err-clause-uses
returns-in-Err-clause-uses g c =
    let first = c.in_ok-blob.ensures in
    let e = g.S.Source.device c.read_tree.new.source in
    let more = c.configuration_properties.ensures in
    uses_more _ (is_unread {X = Vec (Vec PropertyPlace Global) Global} (Err c.in-Err.fault)) first.inspects.uses c.in-Err.ensures.leaves.uses
    (λ honest. all_asked (g.S.Source.device c.args.source.now) e (g.S.Source.device c.configuration_properties.new.source) c.in_ok-blob.blob c.read_tree.new.room c.configuration_properties.result
    first.inspects.uses.same (first.gives honest) more.told honest)

pub returns-in-Ok-clause-inside : goal.returns-in-Ok-clause-inside
returns-in-Ok-clause-inside g c = record {
  survey = c.in_ok-survey.ensures.inside _ c.in_ok-blob.ensures.inside;
  properties = subst (λ (n : ℕ). All (PlacesInside n) c.in-Ok.properties.items) (sym c.in_ok-survey.ensures.totalsize) c.in-Ok.ensures.inside;
}
