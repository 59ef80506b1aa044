use Rattle.std.proofs.Common.{◌≡◌, List, ℕ, map, ap, sym, ◌∙◌, subst, IsTrue, codes, Vec, Global, arith, rules}
use Rattle.json.specs.Tree.{json_tokens}
use Rattle.uimg_blob_reading.specs.declared.places.PropertyPlace.{PropertyPlace}
use Rattle.uimg_fit_checking.specs.FullSurvey.{read_properties}
use Rattle.uimg_fit_checking.specs.Survey.{read_image, read_configuration, read_survey}
use Rattle.uimg_fit_checking.specs.declared.surveying.facts.ImageFacts.{ImageFacts}
use Rattle.uimg_fit_checking.specs.declared.surveying.facts.ConfigurationFacts.{ConfigurationFacts}
use Rattle.uimg_info.specs.Reservations.{reservations_of}
use Rattle.uimg_info.specs.Fit.{root_members, head_members, fit_members, image_json, configurations_json, signatures_members}
use Rattle.uimg_info.specs.Signatures.{read_signature}
use Rattle.uimg_info.specs.declared.signatures.SignatureFacts.{SignatureFacts}
use Rattle.uimg_printing.specs.Members.{array_of, tokens_of}
use Rattle.uimg_printing.proofs.StepLaws.{one, after, appended_as, object_appended}
use Rattle.uimg_info.proofs.{SignatureLaws.tokens_then, WorkLaws.{asks_then, asks_as}}
use Rattle.uimg_info.specs.Work.{image_size, configuration_size, list_size, signature_size}
use Rattle.std.specs.List.{sum_by}
use Rattle.uimg_info.proofs.fit.put_fit.Goals as goal

pub returns : goal.returns
returns g c =
    let file = (g.S.Source.device c.args.source.now).bytes in
    let survey = c.args.facts.now.full.survey in
    let lists = c.args.facts.now.full.properties in
    let signed = c.args.facts.now.signatures.items in
    let properties = map (read_properties file) lists.items in
    let said = read_survey file survey in
    let reserved = reservations_of file survey.totalsize in
    let root = c.in_ok-put_root.ensures in
    let images = c.in_ok-put_images.ensures in
    let configurations = c.in_ok-put_configurations.ensures in
    let signatures = c.in_ok-put_signatures.ensures in
    let those : c.as_slice.result.now ≡ survey.images.items = search rules in
    let these : c.as_slice-2.result.now ≡ survey.configurations.items = search rules in
    let their : c.as_slice-3.result.now ≡ lists.items = search rules in
    let its : c.as_slice-4.result.now ≡ signed = search rules in
    record {
      uses = asks_as (omega (arith, ap (sum_by image_size) those, ap (sum_by configuration_size) these, ap (λ (ps : List (Vec PropertyPlace Global)). sum_by list_size ps) their, ap (sum_by signature_size) its))
          (asks_then root.uses (asks_then images.uses (asks_then configurations.uses signatures.uses)));
      own = tt;
      before = c.end_object.ensures.room.0 ∙ signatures.before ∙ configurations.before ∙ c.key-2.ensures.room.0 ∙ images.before ∙ c.key.ensures.room.0 ∙ root.before ∙ c.in_ok-put_head.ensures.before ∙ c.begin_object.ensures.room.0;
      told = λ honest.
          let honest_root = subst IsTrue (sym root.uses.same.honest) honest in
          let honest_images = subst IsTrue (sym images.uses.same.honest) honest_root in
          let same_images = images.uses.same.bytes ∙ root.uses.same.bytes in
          let first = appended_as _ _ _ _
          (ap (λ (f : List ℕ). json_tokens (array_of (map (image_json survey.totalsize) (map (read_image f) c.as_slice.result.now)))) root.uses.same.bytes
          ∙ ap (λ (is : List ImageFacts). json_tokens (array_of (map (image_json survey.totalsize) (map (read_image file) is)))) those) (images.told honest_root) in
          let second = appended_as _ _ _ _
          (ap (λ (f : List ℕ). json_tokens (array_of (configurations_json (map (read_configuration f) c.as_slice-2.result.now) (map (read_properties f) c.as_slice-3.result.now)))) same_images
          ∙ ap (λ (cs : List ConfigurationFacts). json_tokens (array_of (configurations_json (map (read_configuration file) cs) (map (read_properties file) c.as_slice-3.result.now)))) these
          ∙ ap (λ (ps : List (Vec PropertyPlace Global)). json_tokens (array_of (configurations_json (map (read_configuration file) survey.configurations.items) (map (read_properties file) ps)))) their)
          (configurations.told honest_images) in
          let honest_signatures = subst IsTrue (sym configurations.uses.same.honest) honest_images in
          let same_signatures = configurations.uses.same.bytes ∙ same_images in
          let third = appended_as _ _ _ _
          (ap (λ (f : List ℕ). tokens_of (signatures_members (map (read_signature f) c.as_slice-4.result.now))) same_signatures
          ∙ ap (λ (ss : List SignatureFacts). tokens_of (signatures_members (map (read_signature file) ss))) its)
          (signatures.told honest_signatures) in
          object_appended _ _ _ _ (fit_members c.args.path.now c.args.size reserved said properties (map (read_signature file) signed))
          (one c.in_ok-begin_object.ensures.ok c.begin_object.ensures.room.0)
          (appended_as _ _ _ _ (sym (tokens_then (head_members c.args.path.now c.args.size survey.totalsize) (root_members reserved said) (signatures_members (map (read_signature file) signed)) (codes "images") (codes "configurations")
          (array_of (map (image_json survey.totalsize) said.images)) (array_of (configurations_json said.configurations properties))))
          (after c.in_ok-put_head.ensures (after (root.told honest)
          (after (after (one c.in_ok-key.ensures.ok c.key.ensures.room.0) first) (after (after (one c.in_ok-key-2.ensures.ok c.key-2.ensures.room.0) second) third)))))
          (one c.in_ok-end_object.ensures.ok c.end_object.ensures.room.0);
    }
