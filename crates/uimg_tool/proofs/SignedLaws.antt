-- What a check by keys says if it finds each configuration signed.
use Rattle.std.proofs.Common.{◌≡◌, ℕ, List, Bool, true, false, [], if◌then◌else◌, IsTrue, is_some, inr, Option, Some, None, Result, Ok, Err, refl, ap, sym, true≢false}
use Rattle.std.specs.Borrow.{Bor}
use Rattle.uimg_checks.specs.CheckEnds.{IsVerdict, Shows}
use Rattle.uimg_checks.specs.References.{MissingSaid}
use Rattle.uimg_checks.specs.Verdicts.{Verdict, Finds, covered_or, facts_verdict, fit_verdict, header_verdict, is_right, lacks_or, listed, listed_then, loose_or, node_count, required_verdict, signed_by, signed_finding, signed_verdict, strict_verdict, verdict_by, verdict_of, unsigned_or}
use Rattle.uimg_checks.specs.{Finding.check_of, References.missing_in}
use Rattle.uimg_checks.specs.declared.answer.Answer.{Answer}
use Rattle.uimg_checks.specs.declared.answer.Answer.TheVariants.{Found, Missing, Loose, Refused, Failed}
use Rattle.uimg_checks.specs.declared.answer.Configurations.TheVariants as configurations
use Rattle.uimg_checks.specs.declared.answer.Signed.{Signed}
use Rattle.uimg_checks.specs.declared.finding.Checked.{Checked}
use Rattle.uimg_checks.specs.declared.finding.Checked.TheVariants as checked
use Rattle.uimg_checks.specs.declared.judging.Terms.{Terms}
use Rattle.uimg_engine.specs.Headline.{is_fit}
use Rattle.uimg_engine.specs.declared.fault.Fault.{Fault}
use Rattle.uimg_fit_base.specs.declared.fault.Fault.{Fault as FitEngineFault}
use Rattle.uimg_fit_checking.specs.Survey.{Said, survey_of}
use Rattle.uimg_verifying.specs.declared.required.Required.{Required}
use Rattle.uimg_legacy.specs.declared.fault.LegacyFault.{LegacyFault}
use Rattle.uimg_requests.specs.declared.command.Form.TheVariants as form
use Rattle.uimg_strict.specs.{Headers.loose_legacy, Looseness.{LooseSaid, looseness_of}}
use Rattle.uimg_strict.specs.declared.loose.Looseness.{Looseness}
use Rattle.uimg_tool.specs.{UnpackComplaints.EndsSigned, Unpackings.{IsSignedWhole, SignedBy, is_signed}}
use Rattle.uimg_tool.specs.declared.unpack_answers.Ending.{Ending}
use Rattle.uimg_tool.specs.declared.unpack_answers.Ending.TheVariants as ending
use Rattle.uimg_unpacking.specs.declared.unpacking.Unpacking.{Unpacking}
use Rattle.uimg_verifying.specs.{Configurations.unsigned_of, Covering.uncovered_of, Results.SignatureSaid}

module _ (told : Checked (Bor (List ℕ))) (signed : Signed) (file : List ℕ) where
  abbrev Says : Verdict → Type 0
  Says verdict = IsVerdict (Found told (Some (configurations.Signed signed))) verdict

  tight : (signatures : List SignatureSaid) (r : Result (Option LooseSaid) FitEngineFault) (later : Verdict) → Says (loose_or signatures r later) → (r ≡ Ok None) × Says later
  tight signatures (Ok (Some said)) later says = absurd says
  tight signatures (Ok None) later says = (refl, says)
  tight signatures (Err fault) later says = absurd says

  no_missing : (missing : Option MissingSaid) (later : Verdict) → Says (lacks_or missing later) → Says later
  no_missing (Some said) later says = absurd says
  no_missing None later says = says

  no_signature : (found : Checked (List ℕ)) → Says (Finds found None) → ⊥
  no_signature found says = true≢false (ap is_some says.1)

  covered : (covers : Bool) (later : Verdict) → covers ≡ true → Says (covered_or covers file later) → uncovered_of file ≡ Ok None
  covered true later so says = (tight [] (uncovered_of file) later says).0
  covered false later so says = absurd (true≢false (sym so))

  by_listed : (terms : Terms) (required : Required) (found : Checked (List ℕ)) (r : Result (List SignatureSaid) FitEngineFault) → terms.covers_images ≡ true → Says (listed_then r (required_verdict terms required file found)) → IsSignedWhole required file
  by_listed terms required found (Ok signatures) so says =
      let later = signed_finding required found signatures in
      let both = tight signatures (unsigned_of required file) (covered_or terms.covers_images file later) says in
      record { signed = both.0; covered = covered terms.covers_images later so both.1 }
  by_listed terms required found (Err fault) so says = absurd says

  by_keys : (required : Option Required) (terms : Terms) (found : Checked (List ℕ)) (nodes : ℕ) → terms.covers_images ≡ true → Says (signed_by required terms file found nodes) → SignedBy required file
  by_keys None terms found nodes so says = tt
  by_keys (Some required) terms found nodes so says = by_listed terms required found (listed terms.lists required file) so says

  by_facts : (terms : Terms) (found : Checked (List ℕ)) (r : Result Said FitEngineFault) → terms.covers_images ≡ true → Says (facts_verdict terms file found r) → SignedBy terms.required file
  by_facts terms found (Ok said) so says =
      by_keys terms.required terms found (node_count said.configurations) so (no_missing (missing_in said) (signed_verdict terms file found (node_count said.configurations)) says)
  by_facts terms found (Err fault) so says = absurd says

  by_fit : (terms : Terms) (found : Checked (List ℕ)) (right : Bool) → terms.covers_images ≡ true → Says (if right then fit_verdict terms file found else Finds found None) → SignedBy terms.required file
  by_fit terms found true so says = by_facts terms found (survey_of file) so (tight [] (looseness_of file) (facts_verdict terms file found (survey_of file)) says).1
  by_fit terms found false so says = absurd (no_signature found says)

  by_header : (required : Option Required) (r : Result (Option Looseness) LegacyFault) → Says (header_verdict required r) → SignedBy required file
  by_header None (Ok (Some why)) says = absurd says
  by_header None (Ok None) says = tt
  by_header None (Err fault) says = tt
  by_header (Some required) (Ok (Some why)) says = absurd says
  by_header (Some required) (Ok None) says = absurd says
  by_header (Some required) (Err fault) says = absurd says

  by_weak : (required : Option Required) → Says (unsigned_or required (Finds checked.Weak None)) → SignedBy required file
  by_weak None says = tt
  by_weak (Some required) says = absurd says

  by_strict : (terms : Terms) (found : Checked (List ℕ)) → terms.covers_images ≡ true → Says (strict_verdict terms file found) → SignedBy terms.required file
  by_strict terms (checked.Fit finding) so says = by_fit terms (checked.Fit finding) (is_right finding) so says
  by_strict terms checked.Right so says = by_header terms.required (loose_legacy file) says
  by_strict terms checked.Damaged so says = absurd (no_signature checked.Damaged says)
  by_strict terms checked.Weak so says = by_weak terms.required says

  strictly : (strict : Bool) (terms : Terms) (found : Checked (List ℕ)) → terms.covers_images ≡ true → Says (if strict then strict_verdict terms file found else Finds found None) → SignedBy terms.required file
  strictly true terms found so says = by_strict terms found so says
  strictly false terms found so says = absurd (no_signature found says)

  by_check : (terms : Terms) (r : Result (Checked (List ℕ)) Fault) → terms.covers_images ≡ true → Says (verdict_by terms file r) → SignedBy terms.required file
  by_check terms (Ok found) so says = strictly terms.is_strict terms found so says
  by_check terms (Err fault) so says = absurd says

-- an end by an answer
pub unsigned_ended : (asked : Unpacking) (terms : Terms) (file : List ℕ) (answer : Answer) (end : Ending) → end ≡ ending.Unsigned answer → IsTrue (is_some terms.required) → Shows answer (verdict_of terms file)
    → EndsSigned asked terms file end
unsigned_ended asked terms file answer end is keyed shows = inr (record { keyed = keyed; answer = answer; is = is; shows = shows })

-- the answer that each configuration is signed
pub signed_shown : (terms : Terms) (file : List ℕ) (answer : Answer) → is_signed answer ≡ true → terms.covers_images ≡ true → Shows answer (verdict_of terms file) → SignedBy terms.required file
signed_shown terms file (Found told (Some (configurations.Signed it))) signed covers shows = by_check told it file terms (check_of (is_fit form.Guess file) terms.need file) covers shows
signed_shown terms file (Found told (Some (configurations.Unchecked nodes))) signed covers shows = absurd (true≢false (sym signed))
signed_shown terms file (Found told None) signed covers shows = absurd (true≢false (sym signed))
signed_shown terms file (Missing configuration property name) signed covers shows = absurd (true≢false (sym signed))
signed_shown terms file (Loose format why name signatures) signed covers shows = absurd (true≢false (sym signed))
signed_shown terms file (Refused stop) signed covers shows = absurd (true≢false (sym signed))
signed_shown terms file (Failed stop) signed covers shows = absurd (true≢false (sym signed))
