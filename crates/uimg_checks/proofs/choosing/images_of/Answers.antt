use Rattle.std.proofs.Common.{◌≡◌, List, Option, Bool, IsTrue, map, ap, sym, subst, ◌∙◌}
use Rattle.std.specs.Option.{option_map}
use Rattle.uimg_base.specs.declared.spans.Span.{Span}
use Rattle.uimg_fit_checking.specs.Survey.{read_configuration}
use Rattle.uimg_checks.specs.declared.references.missing.Missing.{Missing}
use Rattle.uimg_checks.specs.declared.references.reference.Reference.{Reference}
use Rattle.uimg_checks.specs.Choices.{named_or, names_among}
use Rattle.uimg_checks.specs.Given.{given_by, read_given}
use Rattle.uimg_checks.specs.ReferenceNames.{HasNames}
use Rattle.uimg_checks.specs.References.{MissingSaid, missing_of, read_missing}
use Rattle.uimg_checks.proofs.choosing.images_of.Goals as goal

pub returns-in-Some-clause-told : goal.returns-in-Some-clause-told
returns-in-Some-clause-told g c = λ honest list has.
    let file = (g.S.Source.device c.args.source.now).bytes in
    let its = read_configuration file c.args.configuration.now in
    let told : option_map (read_missing file) c.in_ok-missing.field-0 ≡ missing_of list its = c.in_ok-missing.ensures.told honest list has in
    ap (λ (o : Option MissingSaid). named_or o (names_among (given_by its))) (sym told ∙ ap (λ (o : Option Missing). option_map (read_missing file) o) c.in-Some.is)

pub returns-clause-told : goal.returns-clause-told
returns-clause-told g c = λ honest list has.
    let file = (g.S.Source.device c.args.source.now).bytes in
    let its = read_configuration file c.args.configuration.now in
    let same = c.in_ok-missing.ensures.uses.same in
    let here = subst (λ (b : Bool). IsTrue b) (sym same.honest) honest in
    let told : option_map (read_missing file) c.in_ok-missing.field-0 ≡ missing_of list its = c.in_ok-missing.ensures.told honest list has in (
      names_among (given_by its),
      ap (λ (o : Option MissingSaid). named_or o (names_among (given_by its))) (sym told ∙ ap (λ (o : Option Missing). option_map (read_missing file) o) c.in_default.is),
      subst (λ (given : List (Reference × Option Span)). HasNames c.in_ok-names.names (names_among (map (read_given file) given))) c.given_by.ensures
          (subst (λ (w : List _). HasNames c.in_ok-names.names (names_among (map (read_given w) c.given_by.result))) same.bytes (c.in_ok-names.ensures.told here)),
    )
