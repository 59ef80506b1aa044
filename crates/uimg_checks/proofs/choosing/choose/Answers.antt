use Rattle.std.proofs.Common.{rules, ◌≡◌, ℕ, List, Option, Bool, Bor, Result, Err, IfOk, map, codes, true, false, ap, sym, subst, ◌∙◌, if◌then◌else◌}
use Rattle.std.specs.Option.{option_map}
use Rattle.std.specs.Str.{bytes_eq}
use Rattle.uimg_fit_base.specs.Files.{bytes_in}
use Rattle.uimg_fit_checking.specs.Survey.{read_configuration, read_survey}
use Rattle.uimg_fit_checking.specs.declared.surveying.facts.ConfigurationFacts.{ConfigurationFacts}
use Rattle.uimg_fit_checking.specs.declared.surveying.facts.ImageFacts.{ImageFacts}
use Rattle.uimg_checks.specs.Choices.{IsChoice, configuration_of, default_images, image_names_of, images_among, images_by, images_named, lost}
use Rattle.uimg_checks.specs.ReferenceNames.{HasNames, image_name_in}
use Rattle.uimg_checks.specs.References.{MissingSaid}
use Rattle.uimg_checks.specs.declared.references.reference.Reference.TheVariants.{Requested}
use Rattle.uimg_checks.proofs.{MissingLaws.image_names, VerdictLaws.over}
use Rattle.uimg_checks.proofs.choosing.choose.Goals as goal

pub returns-in-Some-clause-told : goal.returns-in-Some-clause-told
unfolding images_named
returns-in-Some-clause-told g c = λ honest.
    let d = g.S.Source.device c.args.source.now in
    let e = g.S.Source.device c.image_names.new.source in
    let f = g.S.Source.device c.find_configuration.new.source in
    let file = d.bytes in
    let said = read_survey file c.args.survey.now in
    let asked = c.args.asked.now in
    let first = c.in_ok-images.ensures.uses.same in
    let second = c.in_ok-found.ensures.same in
    let told = over d e (λ (w : List ℕ). option_map (λ (it : Bor ConfigurationFacts). read_configuration w it.now) c.in_ok-found.field-0 ≡ configuration_of asked (map (read_configuration w) c.as_slice-2.result.now)) first c.in_ok-found.ensures.told honest in
    let searched : configuration_of asked said.configurations ≡ option_map (λ (it : Bor ConfigurationFacts). read_configuration file it.now) c.in_ok-found.field-0 =
    ap (λ (l : List ConfigurationFacts). configuration_of asked (map (read_configuration file) l)) (sym c.as_slice-2.ensures.value) ∙ sym told in
    let has : HasNames c.in_ok-images.images (image_names_of said) =
    subst (λ (l : List (List ℕ)). HasNames c.in_ok-images.images l) (sym (image_names file c.args.survey.now.images.items))
    (subst (λ (l : List ImageFacts). HasNames c.in_ok-images.images (map (image_name_in file) l)) c.as_slice.ensures.value (c.in_ok-images.ensures.told honest)) in
    let found = c.in-Some.found.now in
    let named = searched ∙ ap (λ (o : Option (Bor ConfigurationFacts)). option_map (λ (it : Bor ConfigurationFacts). read_configuration file it.now) o) c.in-Some.is in
    let P = λ (w : List ℕ). (list : List (List ℕ)) → HasNames c.in_ok-images.images list → IfOk c.images_of.result (IsChoice w (images_among list (read_configuration w found))) in
    subst (λ (r : Result (List (List ℕ)) MissingSaid). IfOk c.images_of.result (IsChoice file r)) (sym (ap (images_by asked said) named))
    (over d e P first (over e f P second c.images_of.ensures.told) honest (image_names_of said) has)

pub returns-then-eq-clause-told : goal.returns-then-eq-clause-told
unfolding images_named
returns-then-eq-clause-told g c = λ honest.
    let d = g.S.Source.device c.args.source.now in
    let e = g.S.Source.device c.image_names.new.source in
    let f = g.S.Source.device c.find_configuration.new.source in
    let file = d.bytes in
    let said = read_survey file c.args.survey.now in
    let asked = c.args.asked.now in
    let first = c.in_ok-images.ensures.uses.same in
    let second = c.in_ok-found.ensures.same in
    let told = over d e (λ (w : List ℕ). option_map (λ (it : Bor ConfigurationFacts). read_configuration w it.now) c.in_ok-found.field-0 ≡ configuration_of asked (map (read_configuration w) c.as_slice-2.result.now)) first c.in_ok-found.ensures.told honest in
    let searched : configuration_of asked said.configurations ≡ option_map (λ (it : Bor ConfigurationFacts). read_configuration file it.now) c.in_ok-found.field-0 =
    ap (λ (l : List ConfigurationFacts). configuration_of asked (map (read_configuration file) l)) (sym c.as_slice-2.ensures.value) ∙ sym told in
    let has : HasNames c.in_ok-images.images (image_names_of said) =
    subst (λ (l : List (List ℕ)). HasNames c.in_ok-images.images l) (sym (image_names file c.args.survey.now.images.items))
    (subst (λ (l : List ImageFacts). HasNames c.in_ok-images.images (map (image_name_in file) l)) c.as_slice.ensures.value (c.in_ok-images.ensures.told honest)) in
    let named = searched ∙ ap (λ (o : Option (Bor ConfigurationFacts)). option_map (λ (it : Bor ConfigurationFacts). read_configuration file it.now) o) c.in-None.is in
    let is : bytes_eq asked (codes "default") ≡ true = search rules in
    let P = λ (w : List ℕ). HasNames c.in_ok-images.images (image_names_of (read_survey w c.args.survey.now)) → IfOk c.default_images.result (IsChoice w (default_images (read_survey w c.args.survey.now) (bytes_in w c.args.survey.now.preferred))) in
    subst (λ (r : Result (List (List ℕ)) MissingSaid). IfOk c.default_images.result (IsChoice file r))
    (sym (ap (images_by asked said) named ∙ ap (λ (b : Bool). let r : Result (List (List ℕ)) MissingSaid = if b then default_images said said.preferred else Err (lost Requested asked) in r) is))
    (over d e P first (over e f P second c.default_images.ensures.told) honest has)

pub returns-clause-told : goal.returns-clause-told
unfolding images_named
returns-clause-told g c = λ honest.
    let d = g.S.Source.device c.args.source.now in
    let e = g.S.Source.device c.image_names.new.source in
    let f = g.S.Source.device c.find_configuration.new.source in
    let file = d.bytes in
    let said = read_survey file c.args.survey.now in
    let asked = c.args.asked.now in
    let first = c.in_ok-images.ensures.uses.same in
    let second = c.in_ok-found.ensures.same in
    let told = over d e (λ (w : List ℕ). option_map (λ (it : Bor ConfigurationFacts). read_configuration w it.now) c.in_ok-found.field-0 ≡ configuration_of asked (map (read_configuration w) c.as_slice-2.result.now)) first c.in_ok-found.ensures.told honest in
    let searched : configuration_of asked said.configurations ≡ option_map (λ (it : Bor ConfigurationFacts). read_configuration file it.now) c.in_ok-found.field-0 =
    ap (λ (l : List ConfigurationFacts). configuration_of asked (map (read_configuration file) l)) (sym c.as_slice-2.ensures.value) ∙ sym told in
    let named = searched ∙ ap (λ (o : Option (Bor ConfigurationFacts)). option_map (λ (it : Bor ConfigurationFacts). read_configuration file it.now) o) c.in-None.is in
    let is : bytes_eq asked (codes "default") ≡ false = search rules in
    subst (λ (r : Result (List (List ℕ)) MissingSaid). IfOk c.lost.result (IsChoice file r))
    (sym (ap (images_by asked said) named ∙ ap (λ (b : Bool). let r : Result (List (List ℕ)) MissingSaid = if b then default_images said said.preferred else Err (lost Requested asked) in r) is))
    (c.lost.ensures.told file)
