use Rattle.std.proofs.Common.{◌≡◌, ℕ, List, Bool, Option, None, true, false, is_some, map, IfOk, IsTrue, sym, ap, subst, ◌∙◌}
use Rattle.std.specs.Option.{option_map}
use Rattle.uimg_fit_base.specs.Files.{bytes_in}
use Rattle.uimg_fit_checking.specs.declared.surveying.facts.ImageFacts.{ImageFacts}
use Rattle.uimg_fit_checking.specs.declared.surveying.facts.ConfigurationFacts.{ConfigurationFacts}
use Rattle.uimg_fit_checking.specs.Survey.{read_configuration, read_image}
use Rattle.uimg_checks.specs.declared.references.reference.Reference.TheVariants.{Default}
use Rattle.uimg_checks.specs.ReferenceNames.{HasNames, image_name_in, configuration_name_in}
use Rattle.uimg_checks.specs.References.{MissingSaid, read_missing, earlier_missing, missing_under, first_missing}
use Rattle.uimg_checks.proofs.MissingLaws.{image_names, configuration_names, none_read, some_first, none_first}
use Rattle.uimg_checks.proofs.references.missing.find_missing.Goals as goal

pub returns-then-is_some-clause-told : goal.returns-then-is_some-clause-told
returns-then-is_some-clause-told g c = λ honest.
    let file = (g.S.Source.device c.args.source.now).bytes in
    let configurations = c.args.survey.now.configurations.items in
    let names = map (λ c. c.name) (map (read_configuration file) configurations) in
    let same = c.in_ok-names.ensures.uses.same in
    let here = subst (λ (b : Bool). IsTrue b) (sym same.honest) honest in
    let named : HasNames c.in_ok-names.names names = subst (λ (l : List (List ℕ)). HasNames c.in_ok-names.names l) (sym (configuration_names file configurations))
    (subst (λ (l : List ConfigurationFacts). HasNames c.in_ok-names.names (map (configuration_name_in file) l)) c.as_slice-configurations.ensures.value (c.in_ok-names.ensures.told honest)) in
    let told = subst (λ (w : List ℕ). option_map (read_missing w) c.in_ok-preferred.preferred ≡ missing_under names None Default (bytes_in w c.args.survey.now.preferred)) same.bytes (c.in_ok-preferred.ensures.told here names named) in
    let some : is_some c.in_ok-preferred.preferred ≡ true = sym c.is_some.ensures ∙ c.if-is_some.true in
    let later = first_missing (map (λ i. i.name) (map (read_image file) c.args.survey.now.images.items)) (map (read_configuration file) configurations) in
    sym (some_first file c.in_ok-preferred.preferred later some) ∙ ap (λ (o : Option MissingSaid). earlier_missing o later) told

pub returns-clause-told : goal.returns-clause-told
returns-clause-told g c = λ honest.
    let file = (g.S.Source.device c.args.source.now).bytes in
    let configurations = c.args.survey.now.configurations.items in
    let images = c.args.survey.now.images.items in
    let names = map (λ c. c.name) (map (read_configuration file) configurations) in
    let image_list = map (λ i. i.name) (map (read_image file) images) in
    let first = c.in_ok-names.ensures.uses.same in
    let second = c.in_ok-preferred.ensures.uses.same in
    let third = c.in_ok-images.ensures.uses.same in
    let here = subst (λ (b : Bool). IsTrue b) (sym first.honest) honest in
    let then = subst (λ (b : Bool). IsTrue b) (sym second.honest) here in
    let last = subst (λ (b : Bool). IsTrue b) (sym third.honest) then in
    let named : HasNames c.in_ok-names.names names = subst (λ (l : List (List ℕ)). HasNames c.in_ok-names.names l) (sym (configuration_names file configurations))
    (subst (λ (l : List ConfigurationFacts). HasNames c.in_ok-names.names (map (configuration_name_in file) l)) c.as_slice-configurations.ensures.value (c.in_ok-names.ensures.told honest)) in
    let told = subst (λ (w : List ℕ). option_map (read_missing w) c.in_ok-preferred.preferred ≡ missing_under names None Default (bytes_in w c.args.survey.now.preferred)) first.bytes (c.in_ok-preferred.ensures.told here names named) in
    let none : is_some c.in_ok-preferred.preferred ≡ false = sym c.is_some.ensures ∙ c.if-is_some.false in
    let later = first_missing image_list (map (read_configuration file) configurations) in
    let decided : later ≡ earlier_missing (missing_under names None Default (bytes_in file c.args.survey.now.preferred)) later = sym (none_first _ later (sym told ∙ none_read file c.in_ok-preferred.preferred none)) in
    let imaged : HasNames c.in_ok-images.images image_list =
    subst (λ (l : List (List ℕ)). HasNames c.in_ok-images.images l) (sym (image_names file images))
    (subst (λ (w : List ℕ). HasNames c.in_ok-images.images (map (image_name_in w) images)) (second.bytes ∙ first.bytes)
    (subst (λ (l : List ImageFacts). HasNames c.in_ok-images.images (map (image_name_in (g.S.Source.device c.missing_under.new.source).bytes) l)) c.as_slice.ensures.value (c.in_ok-images.ensures.told then))) in
    let found = subst (λ (w : List ℕ). IfOk c.first_missing.result (λ found. option_map (read_missing w) found ≡ first_missing image_list (map (read_configuration w) configurations)))
    (third.bytes ∙ second.bytes ∙ first.bytes)
    (subst (λ (l : List ConfigurationFacts). IfOk c.first_missing.result (λ found. option_map (read_missing (g.S.Source.device c.image_names.new.source).bytes) found ≡ first_missing image_list (map (read_configuration (g.S.Source.device c.image_names.new.source).bytes) l)))
    c.as_slice-configurations.ensures.value (c.first_missing.ensures.told last image_list imaged)) in
    subst (λ (m : Option MissingSaid). IfOk c.first_missing.result (λ found. option_map (read_missing file) found ≡ m)) decided found
