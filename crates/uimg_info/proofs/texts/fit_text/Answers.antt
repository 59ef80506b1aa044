use Rattle.std.proofs.Common.{◌≡◌, List, ℕ, length, map, arith, rules, ap, sym, ◌∙◌, subst, IsTrue, IfOk, Ok, Option, None, Result, Vec, Global}
use Rattle.std.specs.List.{sum_by}
use Rattle.std.proofs.lemmas.List.{length-map}
use Rattle.json.specs.{Print.print, Tree.json_tokens}
use Rattle.uimg_base.specs.{declared.spans.Span.Span, Results.◌>>=◌}
use Rattle.uimg_blob_reading.specs.Plain.{NamedOf}
use Rattle.uimg_fit_checking.specs.declared.surveying.facts.ImageFacts.{ImageFacts}
use Rattle.uimg_fit_checking.specs.FullSurvey.{read_properties, properties_of}
use Rattle.uimg_fit_checking.specs.Survey.{Said, read_image, read_survey, survey_of}
use Rattle.uimg_fit_base.specs.declared.fault.{Fault.Fault, FitFault.FitFault}
use Rattle.uimg_info.specs.{Reservations.reservations_of, Placing.first_fault}
use Rattle.uimg_info.specs.Fit.{fit_json, unless_misplaced, info_of}
use Rattle.uimg_info.specs.{Members.Fact, Signatures.{read_signature, signatures_of}, Work.{facts_size, payload_count, survey_size, names_size, list_size, signature_said_size, signature_size}}
use Rattle.uimg_info.proofs.{InformLaws.informs, WorkLaws.{survey_sized, names_sized, signatures_sized}}
use Rattle.uimg_info.proofs.texts.fit_text.Goals as goal

pub returns-clause-told : goal.returns-clause-told
returns-clause-told g c = λ honest.
    let file = (g.S.Source.device c.args.source.now).bytes in
    let path = c.args.path.now in
    let first = c.in_ok-facts.ensures in
    let sized = c.in-Ok.ensures in
    let looked = c.in_ok-fault.ensures in
    let survey = c.in_ok-facts.facts.full.survey in
    let said = read_survey file survey in
    let lists = c.in_ok-facts.facts.full.properties.items in
    let signed = c.in_ok-facts.facts.signatures.items in
    let signatures = map (read_signature file) signed in
    let properties = map (read_properties file) lists in
    let reserved = reservations_of file survey.totalsize in
    let honest_size = subst IsTrue (sym (sized.same.honest ∙ first.uses.same.honest)) honest in
    let honest_now = subst IsTrue (sym looked.uses.same.honest) honest_size in
    let same_size = sized.same.bytes ∙ first.uses.same.bytes in
    let same = looked.uses.same.bytes ∙ same_size in
    let size : c.in-Ok.size ≡ length file = sized.length ∙ ap (λ (f : List ℕ). length f) first.uses.same.bytes in
    let items : c.as_slice.result.now ≡ survey.images.items = search rules in
    let found : c.in_ok-fault.field-0 ≡ first_fault (length file) survey.totalsize (map (read_image file) survey.images.items) =
    looked.told honest_size
    ∙ ap (λ (n : ℕ). first_fault n survey.totalsize (map (read_image (g.S.Source.device c.size.new.self).bytes) c.as_slice.result.now)) size
    ∙ ap (λ (f : List ℕ). first_fault (length file) survey.totalsize (map (read_image f) c.as_slice.result.now)) same_size
    ∙ ap (λ (is : List ImageFacts). first_fault (length file) survey.totalsize (map (read_image file) is)) items in
    let placed : first_fault (length file) said.totalsize said.images ≡ None = sym found ∙ c.in-None.is in
    let is : info_of path file ≡ Ok (fit_json path (length file) reserved said properties signatures) =
    ap (λ (r : Result Said Fault). r >>= (λ s. unless_misplaced (first_fault (length file) s.totalsize s.images) (fit_json path (length file) (reservations_of file s.totalsize) s (properties_of file) (signatures_of file)))) (first.told honest)
    ∙ ap (λ (o : Option FitFault). unless_misplaced o (fit_json path (length file) reserved said (properties_of file) (signatures_of file))) placed
    ∙ ap (λ (ps : List (List (NamedOf Span))). Ok (fit_json path (length file) reserved said ps (signatures_of file))) (sym (first.properties honest))
    ∙ ap (λ (ss : List (List Fact)). Ok (fit_json path (length file) reserved said properties ss)) (sym (first.signatures honest)) in
    let told =
    subst (λ (n : ℕ). IfOk c.survey_text.result (λ (text : Vec ℕ Global). text.items ≡ print (json_tokens (fit_json path n reserved said properties signatures)))) size
    (subst (λ (f : List ℕ). IfOk c.survey_text.result (λ (text : Vec ℕ Global). text.items ≡ print (json_tokens (fit_json path c.in-Ok.size (reservations_of f survey.totalsize) (read_survey f survey) (map (read_properties f) lists) (map (read_signature f) signed))))) same
    (c.survey_text.ensures.text honest_now)) in
    informs (λ (text : Vec ℕ Global). text.items) path file c.survey_text.result (fit_json path (length file) reserved said properties signatures) is c.survey_text.ensures.own told

pub returns-clause-uses : goal.returns-clause-uses
returns-clause-uses g c =
    let file = (g.S.Source.device c.args.source.now).bytes in
    let first = c.in_ok-facts.ensures in
    let sized = c.in-Ok.ensures in
    let looked = c.in_ok-fault.ensures.uses in
    let survey = c.in_ok-facts.facts.full.survey in
    let read = c.survey_text.ensures.uses in
    let items : c.as_slice.result.now ≡ survey.images.items = search rules in
    record {
      same = record { bytes = read.same.bytes ∙ looked.same.bytes ∙ sized.same.bytes ∙ first.uses.same.bytes; honest = read.same.honest ∙ looked.same.honest ∙ sized.same.honest ∙ first.uses.same.honest };
      asked = λ honest.
          let said : facts_size (survey_of file) ≡ survey_size survey = ap facts_size (first.told honest) ∙ survey_sized file survey first.inside.full.survey in
          let names : sum_by names_size (properties_of file) ≡ sum_by list_size c.in_ok-facts.facts.full.properties.items =
          ap (λ (ps : List (List (NamedOf Span))). sum_by names_size ps) (sym (first.properties honest)) ∙ names_sized file c.in_ok-facts.facts.full first.inside.full in
          let signed : sum_by signature_said_size (signatures_of file) ≡ sum_by signature_size c.in_ok-facts.facts.signatures.items =
          ap (λ (ss : List (List Fact)). sum_by signature_said_size ss) (sym (first.signatures honest)) ∙ signatures_sized file c.in_ok-facts.facts.signatures.items first.inside.signatures in
          let count : payload_count (survey_of file) ≡ length c.as_slice.result.now =
          ap payload_count (first.told honest) ∙ length-map survey.images.items (read_image file) ∙ ap (λ (is : List ImageFacts). length is) (sym items) in
          omega (arith, said, names, signed, count, first.uses.asked honest, sized.asked, looked.asked, read.asked);
      failures = search rules;
    }
