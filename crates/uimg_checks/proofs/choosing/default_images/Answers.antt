use Rattle.std.proofs.Common.{◌≡◌, ℕ, List, Option, Some, None, Bor, Result, Err, IfOk, map, true, false, ap, sym, subst, ◌∙◌}
use Rattle.std.specs.Option.{option_map}
use Rattle.uimg_base.specs.declared.spans.Span.{Span}
use Rattle.uimg_texts.specs.Nul.{text}
use Rattle.uimg_fit_base.specs.Files.{bytes_in}
use Rattle.uimg_fit_checking.specs.Survey.{read_configuration, read_survey}
use Rattle.uimg_fit_checking.specs.declared.surveying.facts.ConfigurationFacts.{ConfigurationFacts}
use Rattle.uimg_checks.specs.Choices.{IsChoice, configuration_of, default_images, image_names_of, images_among, lost}
use Rattle.uimg_checks.specs.ReferenceNames.{HasNames, is_ended}
use Rattle.uimg_checks.specs.References.{MissingSaid}
use Rattle.uimg_checks.specs.declared.references.reference.Reference.TheVariants.{Default}
use Rattle.uimg_checks.proofs.{ChoiceLaws.{default_named, no_text}, VerdictLaws.over}
use Rattle.uimg_checks.proofs.choosing.default_images.Goals as goal

pub returns-in_default-clause-told : goal.returns-in_default-clause-told
returns-in_default-clause-told g c = λ honest has.
    let file = (g.S.Source.device c.args.source.now).bytes in
    subst (λ (p : Option Span). IfOk c.lost.result (IsChoice file (default_images (read_survey file c.args.survey.now) (bytes_in file p)))) (sym c.in_default.is) (c.lost.ensures.told file)

pub returns-then-not-is_ended-clause-told : goal.returns-then-not-is_ended-clause-told
returns-then-not-is_ended-clause-told g c = λ honest has.
    let file = (g.S.Source.device c.args.source.now).bytes in
    let said = read_survey file c.args.survey.now in
    let value = c.as_slice-then-not-is_ended.result.now in
    let ended : is_ended value ≡ false = ap is_ended (c.as_slice-then-not-is_ended.ensures.value ∙ sym c.as_slice.ensures.value) ∙ sym c.is_ended.ensures ∙ c.if-not-is_ended.true in
    subst (λ (r : Result (List (List ℕ)) MissingSaid). IfOk c.lost-then-not-is_ended.result (IsChoice file r))
    (sym (no_text file said c.args.survey.now.preferred c.in-Some.preferred value c.in-Some.is (c.as_slice-then-not-is_ended.ensures.value ∙ c.in_ok-value.ensures.told honest) ended))
    (c.lost-then-not-is_ended.ensures.told file)

pub returns-in-Some-2-clause-told : goal.returns-in-Some-2-clause-told
returns-in-Some-2-clause-told g c = λ honest has.
    let d = g.S.Source.device c.args.source.now in
    let e = g.S.Source.device c.read_bytes.new.source in
    let f = g.S.Source.device c.find_configuration.new.source in
    let file = d.bytes in
    let said = read_survey file c.args.survey.now in
    let value = c.as_slice.result.now in
    let found = c.in-Some-2.found.now in
    let first = c.in_ok-value.ensures.uses.same in
    let second = c.in_ok-found.ensures.same in
    let name : c.before_nul-name.result.now ≡ text value = c.before_nul-name.ensures ∙ ap text (c.as_slice-2.ensures.value ∙ sym c.as_slice.ensures.value) in
    let told = over d e (λ (w : List ℕ). option_map (λ (it : Bor ConfigurationFacts). read_configuration w it.now) c.in_ok-found.field-0 ≡ configuration_of c.before_nul-name.result.now (map (read_configuration w) c.as_slice-3.result.now)) first c.in_ok-found.ensures.told honest in
    let named : configuration_of (text value) said.configurations ≡ Some (read_configuration file found) =
    ap (λ (n : List ℕ). configuration_of n (map (read_configuration file) c.args.survey.now.configurations.items)) (sym name)
    ∙ ap (λ (l : List ConfigurationFacts). configuration_of c.before_nul-name.result.now (map (read_configuration file) l)) (sym c.as_slice-3.ensures.value)
    ∙ sym told ∙ ap (λ (o : Option (Bor ConfigurationFacts)). option_map (λ (it : Bor ConfigurationFacts). read_configuration file it.now) o) c.in-Some-2.is in
    let ended : is_ended value ≡ true = sym c.is_ended.ensures ∙ c.if-not-is_ended.false in
    let P = λ (w : List ℕ). (list : List (List ℕ)) → HasNames c.args.images.now list → IfOk c.images_of.result (IsChoice w (images_among list (read_configuration w found))) in
    subst (λ (r : Result (List (List ℕ)) MissingSaid). IfOk c.images_of.result (IsChoice file r))
    (sym (default_named file said c.args.survey.now.preferred c.in-Some.preferred value (Some (read_configuration file found)) c.in-Some.is (c.as_slice.ensures.value ∙ c.in_ok-value.ensures.told honest) ended named))
    (over d e P first (over e f P second c.images_of.ensures.told) honest (image_names_of said) has)

pub returns-clause-told : goal.returns-clause-told
returns-clause-told g c = λ honest has.
    let d = g.S.Source.device c.args.source.now in
    let e = g.S.Source.device c.read_bytes.new.source in
    let file = d.bytes in
    let said = read_survey file c.args.survey.now in
    let value = c.as_slice.result.now in
    let first = c.in_ok-value.ensures.uses.same in
    let name : c.before_nul-name.result.now ≡ text value = c.before_nul-name.ensures ∙ ap text (c.as_slice-2.ensures.value ∙ sym c.as_slice.ensures.value) in
    let told = over d e (λ (w : List ℕ). option_map (λ (it : Bor ConfigurationFacts). read_configuration w it.now) c.in_ok-found.field-0 ≡ configuration_of c.before_nul-name.result.now (map (read_configuration w) c.as_slice-3.result.now)) first c.in_ok-found.ensures.told honest in
    let named : configuration_of (text value) said.configurations ≡ None =
    ap (λ (n : List ℕ). configuration_of n (map (read_configuration file) c.args.survey.now.configurations.items)) (sym name)
    ∙ ap (λ (l : List ConfigurationFacts). configuration_of c.before_nul-name.result.now (map (read_configuration file) l)) (sym c.as_slice-3.ensures.value)
    ∙ sym told ∙ ap (λ (o : Option (Bor ConfigurationFacts)). option_map (λ (it : Bor ConfigurationFacts). read_configuration file it.now) o) c.in-None.is in
    let ended : is_ended value ≡ true = sym c.is_ended.ensures ∙ c.if-not-is_ended.false in
    subst (λ (r : Result (List (List ℕ)) MissingSaid). IfOk c.lost-in-None.result (IsChoice file r))
    (ap (λ (n : List ℕ). let r : Result (List (List ℕ)) MissingSaid = Err (lost Default n) in r) name
    ∙ sym (default_named file said c.args.survey.now.preferred c.in-Some.preferred value None c.in-Some.is (c.as_slice.ensures.value ∙ c.in_ok-value.ensures.told honest) ended named))
    (c.lost-in-None.ensures.told file)
