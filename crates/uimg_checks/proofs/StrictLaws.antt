-- What a strict check finds further in a file.
use Rattle.std.proofs.Common.{◌≡◌, ◌+◌, Bool, if◌then◌else◌, ◌-◌, ◌^◌, ℕ, min, List, [], ◌∷◌, map, length, true, Option, Some, None, Result, Ok, Err, IsTrue, refl, ap, ap₂, sym, subst, ◌∙◌, sum_by}
use Rattle.std.proofs.lemmas.List.{length-map, Sums.{sum_by-cons}}
use Rattle.std.specs.Option.{option_map}
use Rattle.uimg_base.specs.{Device.{Device, SameDevice}}
use Rattle.uimg_checks.specs.References.{TellsMissing, missing_in, read_missing}
use Rattle.uimg_checks.specs.declared.answer.Answer.{Answer}
use Rattle.uimg_checks.specs.declared.finding.Checked.{Checked}
use Rattle.uimg_checks.specs.declared.finding.Checked.TheVariants as checked
use Rattle.uimg_base.specs.declared.spans.Span.{Span}
use Rattle.uimg_blob_reading.specs.Faults.{refuses_memory}
use Rattle.uimg_engine.specs.Faults.{of_fit}
use Rattle.uimg_engine.specs.declared.fault.Fault.{Fault}
use Rattle.uimg_engine.specs.declared.fault.Fault.TheVariants as engine
use Rattle.uimg_fit_checking.specs.Checks.{NamedFinding, check_of, named_finding}
use Rattle.uimg_checks.specs.Finding.{found_in_fit}
use Rattle.uimg_fit_checking.specs.declared.checking.Finding.{Finding}
use Rattle.uimg_fit_checking.specs.declared.checking.Finding.TheVariants as fit
use Rattle.uimg_checks.specs.declared.references.missing.Missing.{Missing}
use Rattle.uimg_fit_base.specs.declared.fault.Fault.{Fault as FitEngineFault}
use Rattle.uimg_fit_base.specs.declared.fault.Fault.TheVariants as of
use Rattle.uimg_fit_checking.specs.Survey.{ConfigurationSaid, Said, read_configuration, read_name, read_survey, survey_of}
use Rattle.uimg_fit_checking.specs.SurveyParts.{Surveys}
use Rattle.uimg_fit_checking.specs.declared.surveying.facts.ConfigurationFacts.{ConfigurationFacts}
use Rattle.uimg_fit_checking.specs.declared.surveying.facts.Survey.{Survey}
use Rattle.uimg_fit_checking.specs.declared.surveying.fault.SurveyFault.{SurveyFault}
use Rattle.uimg_fit_checking.specs.declared.surveying.fault.SurveyFault.TheVariants.{Stopped}
use Rattle.uimg_strict.specs.{Looseness.{LooseSaid, looseness_of}, Telling.{TellsLooseness, read_loose}}
use Rattle.uimg_strict.specs.declared.loose.Loose.{Loose}
use Rattle.uimg_checks.specs.CheckEnds.{AnswersFault, Shows}
use Rattle.uimg_checks.specs.StrictEnds.{TellsFurther}
use Rattle.uimg_checks.specs.Verdicts.{Verdict, Finds, covered_or, facts_verdict, fit_verdict, is_right, lacks_or, listed, listed_then, loose_or, loosens, node_count, required_verdict, signed_by, signed_finding, signed_verdict, strict_verdict, verdict_by}
use Rattle.uimg_verifying.specs.{Configurations.{TellsUnsigned, unsigned_of}, Results.SignatureSaid}
use Rattle.uimg_verifying.specs.declared.required.Required.{Required}
use Rattle.uimg_checks.specs.declared.judging.Further.{Further}
use Rattle.uimg_checks.specs.declared.judging.Terms.{Terms}
use Rattle.uimg_checks.proofs.VerdictLaws.{fault_shown, over, told_fault, unread_shows}

by_looseness : (terms : Terms) (file : List ℕ) (found : Checked (List ℕ)) (r : Result (Option LooseSaid) FitEngineFault) → looseness_of file ≡ r
    → fit_verdict terms file found ≡ loose_or [] r (facts_verdict terms file found (survey_of file))
by_looseness terms file found r is = ap (λ (it : Result (Option LooseSaid) FitEngineFault). loose_or [] it (facts_verdict terms file found (survey_of file))) is

by_facts : (terms : Terms) (file : List ℕ) (found : Checked (List ℕ)) (r : Result Said FitEngineFault) → TellsLooseness file (Ok None) → survey_of file ≡ r
    → fit_verdict terms file found ≡ facts_verdict terms file found r
by_facts terms file found r tight is = by_looseness terms file found (Ok None) tight ∙ ap (facts_verdict terms file found) is

-- the verdict by the facts of a survey
surveyed : (terms : Terms) (d e : Device) (survey : Survey) (missing : Option Missing) → SameDevice d e → (IsTrue d.honest → TellsLooseness d.bytes (Ok None))
    → (IsTrue d.honest → Surveys d.bytes (Ok survey)) → (IsTrue e.honest → TellsMissing e.bytes (missing_in (read_survey e.bytes survey)) (Ok missing))
    → IsTrue d.honest → (found : Checked (List ℕ))
    → fit_verdict terms d.bytes found ≡ lacks_or (option_map (read_missing d.bytes) missing) (signed_verdict terms d.bytes found (node_count (read_survey d.bytes survey).configurations))
surveyed terms d e survey missing same tight told lost honest found =
    let lacks = over d e (λ file. TellsMissing file (missing_in (read_survey file survey)) (Ok missing)) same lost honest in
    by_facts terms d.bytes found (Ok (read_survey d.bytes survey)) (tight honest) (told honest)
    ∙ ap (λ (it : Option _). lacks_or it (signed_verdict terms d.bytes found (node_count (read_survey d.bytes survey).configurations))) (sym lacks)

nodes_sum : (file : List ℕ) (cs : List ConfigurationFacts) → sum_by (λ (c : ConfigurationSaid). length c.nodes) (map (read_configuration file) cs) ≡ sum_by (λ (c : ConfigurationFacts). length c.nodes.items) cs
nodes_sum file [] = refl
nodes_sum file (c ∷ cs) =
    sum_by-cons (λ (it : ConfigurationSaid). length it.nodes) (read_configuration file c) (map (read_configuration file) cs)
    ∙ ap₂ (λ (a b : ℕ). a + b) (length-map c.nodes.items (read_name file)) (nodes_sum file cs)
    ∙ sym (sum_by-cons (λ (it : ConfigurationFacts). length it.nodes.items) c cs)

-- the verdict by signatures, where nothing is loose or missing
pub signatures_left : (terms : Terms) (d e f : Device) (survey : Survey) (nodes : ℕ) (loose : Option Loose) (missing : Option Missing) (result : Result Further SurveyFault)
    → loose ≡ None → missing ≡ None → SameDevice d e → SameDevice e f
    → (IsTrue d.honest → TellsLooseness d.bytes (Ok loose)) → (IsTrue d.honest → Surveys d.bytes (Ok survey))
    → (IsTrue e.honest → TellsMissing e.bytes (missing_in (read_survey e.bytes survey)) (Ok missing))
    → nodes ≡ min (sum_by (λ (c : ConfigurationFacts). length c.nodes.items) survey.configurations.items) (2 ^ 64 - 1)
    → (IsTrue f.honest → (found : Checked (List ℕ)) → TellsFurther (signed_verdict terms f.bytes found nodes) f.bytes found result)
    → IsTrue d.honest → (found : Checked (List ℕ)) → TellsFurther (fit_verdict terms d.bytes found) d.bytes found result
signatures_left terms d e f survey nodes loose missing result no_loose no_missing first more tight told lost counted signed honest found =
    let same = surveyed terms d e survey None first (λ h. subst (λ (l : Option Loose). TellsLooseness d.bytes (Ok l)) no_loose (tight h)) told
    (λ h. subst (λ (m : Option Missing). TellsMissing e.bytes (missing_in (read_survey e.bytes survey)) (Ok m)) no_missing (lost h)) honest found
    ∙ ap (signed_verdict terms d.bytes found) (ap (λ (n : ℕ). min n (2 ^ 64 - 1)) (nodes_sum d.bytes survey.configurations.items) ∙ sym counted) in
    let looks = λ (file : List ℕ). (it : Checked (List ℕ)) → TellsFurther (signed_verdict terms file it nodes) file it result in
    subst (λ (v : Verdict). TellsFurther v d.bytes found result) (sym same) (over d e looks first (over e f looks more signed) honest found)

module _ (terms : Terms) (required : Required) (d e : Device) (nodes : ℕ) (signatures : List SignatureSaid) (are : terms.required ≡ Some required) (first : SameDevice d e) (listed_are : IsTrue d.honest → listed terms.lists required d.bytes ≡ Ok signatures) (honest : IsTrue d.honest) where
  -- the verdict with these signature nodes
  with_nodes : (found : Checked (List ℕ)) → signed_verdict terms d.bytes found nodes ≡ required_verdict terms required d.bytes found signatures
  with_nodes found =
      ap (λ (k : Option Required). signed_by k terms d.bytes found nodes) are
      ∙ ap (λ (l : Result (List SignatureSaid) FitEngineFault). listed_then l (required_verdict terms required d.bytes found)) (listed_are honest)

  -- .. where all configurations are signed
  pub images_left : (f : Device) (loose : Option Loose) (result : Result Further SurveyFault) → loose ≡ None → SameDevice e f
      → (IsTrue e.honest → TellsUnsigned required e.bytes (Ok loose))
      → (IsTrue f.honest → (found : Checked (List ℕ)) → TellsFurther (covered_or terms.covers_images f.bytes (signed_finding required found signatures)) f.bytes found result)
      → (found : Checked (List ℕ)) → TellsFurther (signed_verdict terms d.bytes found nodes) d.bytes found result
  images_left f loose result no_loose more signed covered found =
      let later = covered_or terms.covers_images d.bytes (signed_finding required found signatures) in
      let P = λ (file : List ℕ). (it : Checked (List ℕ)) → TellsFurther (covered_or terms.covers_images file (signed_finding required it signatures)) file it result in
      let further = over d e P first (over e f P more covered) honest found in
      let all : unsigned_of required d.bytes ≡ Ok None = subst (λ (l : Option Loose). TellsUnsigned required d.bytes (Ok l)) no_loose (over d e (λ file. TellsUnsigned required file (Ok loose)) first signed honest) in
      let is : signed_verdict terms d.bytes found nodes ≡ later =
      with_nodes found ∙ ap (λ (r : Result (Option LooseSaid) FitEngineFault). loose_or signatures r later) all in
      subst (λ (v : Verdict). TellsFurther v d.bytes found result) (sym is) further

shown_stop : (verdict : Verdict) (file : List ℕ) (found : Checked (List ℕ)) (fault : FitEngineFault) (answer : Answer) → TellsFurther verdict file found (Err (Stopped fault)) → AnswersFault (of_fit fault) answer
    → Shows answer verdict
shown_stop verdict file found (of.Blob fault at) answer further answers =
    told_fault (refuses_memory fault) (engine.Blob fault at) answer verdict refl further (fault_shown (engine.Blob fault at) answer answers)
shown_stop verdict file found (of.Fit fault) answer further answers =
    subst (λ (v : Verdict). Shows answer v) (sym further) (fault_shown (engine.Fit fault) answer answers)
shown_stop verdict file found of.Read answer further answers = unread_shows answer verdict answers
shown_stop verdict file found of.Put answer further answers = absurd further

-- the answer where a survey stopped
pub stopped_shown : (verdict : Verdict) (file : List ℕ) (found : Checked (List ℕ)) (stopped : SurveyFault) (fault : FitEngineFault) (told : Fault) (answer : Answer) → stopped ≡ Stopped fault → told ≡ of_fit fault
    → TellsFurther verdict file found (Err stopped) → AnswersFault told answer → Shows answer verdict
stopped_shown verdict file found stopped fault told answer stops is further answers =
    shown_stop verdict file found fault answer (subst (λ (f : SurveyFault). TellsFurther verdict file found (Err f)) stops further) (subst (λ (f : Fault). AnswersFault f answer) is answers)

named_right : (file : List ℕ) (finding : Finding Span) → is_right (named_finding file finding) ≡ is_right finding
named_right file (fit.Right images nodes) = refl
named_right file (fit.Unhashed image) = refl
named_right file (fit.Wrong image hash word) = refl
named_right file (fit.Weak image) = refl
named_right file (fit.Overlapping image) = refl
named_right file fit.NoImage = refl

-- a strict check looks further if all is right
pub further_shown : (terms : Terms) (d e f : Device) (finding : Finding Span) (further : Result Further SurveyFault) (answer : Answer) → terms.is_strict ≡ true → is_right finding ≡ true → SameDevice d e → SameDevice e f
    → (IsTrue d.honest → check_of terms.need d.bytes ≡ Ok (named_finding d.bytes finding))
    → (IsTrue e.honest → (found : Checked (List ℕ)) → TellsFurther (fit_verdict terms e.bytes found) e.bytes found further)
    → (IsTrue f.honest → (verdict : Verdict) → TellsFurther verdict f.bytes (checked.Fit (named_finding f.bytes finding)) further → Shows answer verdict)
    → IsTrue d.honest → Shows answer (verdict_by terms d.bytes (found_in_fit (check_of terms.need d.bytes)))
further_shown terms d e f finding further answer strict right first more told looks shows honest =
    let found = checked.Fit (named_finding d.bytes finding) in
    let answered = λ (file : List ℕ). (verdict : Verdict) → TellsFurther verdict file (checked.Fit (named_finding file finding)) further → Shows answer verdict in
    let same : verdict_by terms d.bytes (found_in_fit (check_of terms.need d.bytes)) ≡ fit_verdict terms d.bytes found =
    ap (λ (r : Result NamedFinding FitEngineFault). verdict_by terms d.bytes (found_in_fit r)) (told honest)
    ∙ ap (λ (b : Bool). if b then strict_verdict terms d.bytes found else Finds found None) strict
    ∙ ap (λ (b : Bool). if b then fit_verdict terms d.bytes found else Finds found None) (named_right d.bytes finding ∙ right) in
    subst (λ (v : Verdict). Shows answer v) (sym same)
    (over d e answered first (over e f answered more shows) honest _
    (over d e (λ file. (it : Checked (List ℕ)) → TellsFurther (fit_verdict terms file it) file it further) first looks honest _))
