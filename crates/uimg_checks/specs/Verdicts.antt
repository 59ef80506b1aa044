-- What a check says of a file, as a function of its bytes.
use Rattle.std.specs.Prelude.{ℕ, min, ◌-◌, ◌^◌, List, [], ◌∷◌, codes, length, Option, Some, None, Result, Ok, Err, Bool, true, false, if◌then◌else◌}
use Rattle.std.specs.{List.sum_by, Option.option_map}
use Rattle.uimg_checks.specs.Finding.{check_of}
use Rattle.uimg_checks.specs.References.{MissingSaid, missing_in}
use Rattle.uimg_checks.specs.declared.answer.Format.{Format}
use Rattle.uimg_checks.specs.declared.answer.Format.TheVariants as format
use Rattle.uimg_checks.specs.declared.finding.Checked.{Checked}
use Rattle.uimg_checks.specs.declared.finding.Checked.TheVariants as checked
use Rattle.uimg_engine.specs.{Faults.of_fit, Headline.is_fit}
use Rattle.uimg_engine.specs.declared.fault.Fault.{Fault}
use Rattle.uimg_engine.specs.declared.fault.Fault.TheVariants as engine
use Rattle.uimg_fit_base.specs.declared.fault.Fault.{Fault as FitEngineFault}
use Rattle.uimg_fit_checking.specs.Survey.{Said, ConfigurationSaid, survey_of}
use Rattle.uimg_fit_checking.specs.declared.checking.Finding.{Finding}
use Rattle.uimg_fit_checking.specs.declared.checking.Finding.TheVariants as fit
use Rattle.uimg_legacy.specs.declared.fault.LegacyFault.{LegacyFault}
use Rattle.uimg_requests.specs.declared.command.Form.TheVariants as form
use Rattle.uimg_strict.specs.{Headers.loose_legacy, Looseness.{LooseSaid, looseness_of}}
use Rattle.uimg_strict.specs.declared.loose.Looseness.{Looseness}
use Rattle.uimg_strict.specs.declared.loose.Looseness.TheVariants.{Unsigned}
use Rattle.uimg_checks.specs.declared.judging.Terms.{Terms}
use Rattle.uimg_verifying.specs.{Configurations.{only_of, unsigned_of}, Covering.uncovered_of, Results.{SignatureSaid, results_of}}
use Rattle.uimg_verifying.specs.declared.required.Required.{Required}

-- what is said of configurations: how many nodes they have, or what keys sign
pub record SignedSaid : Type 0 where
  pub only : Option (List ℕ)
  pub by : List ℕ
  pub signatures : List SignatureSaid

pub data ConfigurationsSaid : Type 0 where
  Unchecked : ℕ → ConfigurationsSaid
  Signed : SignedSaid → ConfigurationsSaid

-- A finding, with what a strict check says of the configurations; a name without a node; what strictness refuses, and the node; or the fault that refuses the file.
pub data Verdict : Type 0 where
  Finds : Checked (List ℕ) → Option ConfigurationsSaid → Verdict
  Lacks : MissingSaid → Verdict
  Loosens : Format → Looseness → Option (List ℕ) → List SignatureSaid → Verdict
  Refuses : Fault → Verdict

-- The name of a node; the root, whose name is empty, is told as `/`.
abbrev pub node_name : List ℕ → List ℕ
node_name [] = codes "/"
node_name (byte ∷ rest) = byte ∷ rest

-- what strictness refuses, with these signature nodes
abbrev pub loosens : List SignatureSaid → LooseSaid → Verdict
loosens signatures said =
    Loosens format.Fit said.why (option_map node_name said.node) signatures

-- how many child nodes the configurations have; the count saturates
abbrev pub node_count : List ConfigurationSaid → ℕ
node_count configurations = min (sum_by (λ c. length c.nodes) configurations) (2 ^ 64 - 1)

-- a missing name, or else the finding
abbrev pub lacks_or : Option MissingSaid → Verdict → Verdict
lacks_or (Some said) later = Lacks said
lacks_or None later = later

-- what strictness refuses, or else what comes later
abbrev pub loose_or : List SignatureSaid → Result (Option LooseSaid) FitEngineFault → Verdict → Verdict
loose_or signatures (Ok (Some said)) later = loosens signatures said
loose_or signatures (Ok None) later = later
loose_or signatures (Err fault) later = Refuses (of_fit fault)

-- a configuration for each image, if that is required, or else what comes later
abbrev pub covered_or : Bool → List ℕ → Verdict → Verdict
covered_or false file later = later
covered_or true file later = loose_or [] (uncovered_of file) later

-- the signature nodes of a file, if they are listed
abbrev pub listed : Bool → Required → List ℕ → Result (List SignatureSaid) FitEngineFault
listed false required file = Ok []
listed true required file = results_of required file

-- what comes with these, or the fault of the file
abbrev pub listed_then : Result (List SignatureSaid) FitEngineFault
    → (List SignatureSaid → Verdict) → Verdict
listed_then (Ok signatures) later = later signatures
listed_then (Err fault) later = Refuses (of_fit fault)

-- the finding, where these signature nodes sign what is required
abbrev pub signed_finding : Required → Checked (List ℕ) → List SignatureSaid → Verdict
signed_finding required found signatures = Finds found (Some (Signed (record {
  only = only_of required;
  by = required.keys.name.items;
  signatures = signatures;
})))

-- the signatures that are required, and then a configuration for each image, if that is required
abbrev pub required_verdict : Terms → Required → List ℕ → Checked (List ℕ) → List SignatureSaid
    → Verdict
required_verdict terms required file found signatures = loose_or signatures (unsigned_of required file)
    (covered_or terms.covers_images file (signed_finding required found signatures))

-- what is required of signatures, if something is; or else the finding with the number of nodes
abbrev pub signed_by : Option Required → Terms → List ℕ → Checked (List ℕ) → ℕ → Verdict
signed_by None terms file found nodes = Finds found (Some (Unchecked nodes))
signed_by (Some required) terms file found nodes =
    listed_then (listed terms.lists required file) (required_verdict terms required file found)

abbrev pub signed_verdict : Terms → List ℕ → Checked (List ℕ) → ℕ → Verdict
signed_verdict terms = signed_by terms.required terms

-- a FIT image's names, and then its signatures
abbrev pub facts_verdict : Terms → List ℕ → Checked (List ℕ) → Result Said FitEngineFault → Verdict
facts_verdict terms file found (Ok said) =
    lacks_or (missing_in said) (signed_verdict terms file found (node_count said.configurations))
facts_verdict terms file found (Err fault) = Refuses (of_fit fault)

-- a strict check of a FIT image with this finding
abbrev pub fit_verdict : Terms → List ℕ → Checked (List ℕ) → Verdict
fit_verdict terms file found =
    loose_or [] (looseness_of file) (facts_verdict terms file found (survey_of file))

-- A legacy image has no signature.
abbrev pub unsigned_or : Option Required → Verdict → Verdict
unsigned_or None later = later
unsigned_or (Some required) later = Loosens format.Legacy Unsigned None []

-- a strict check of a legacy image whose checksums are right
abbrev pub header_verdict : Option Required → Result (Option Looseness) LegacyFault → Verdict
header_verdict required (Ok (Some why)) = Loosens format.Legacy why None []
header_verdict required (Ok None) = unsigned_or required (Finds checked.Right None)
header_verdict required (Err fault) = Refuses (engine.Legacy fault)

-- whether all hash nodes are right, and each image has one
abbrev pub is_right : {N : Type 0} → Finding N → Bool
is_right (fit.Right images nodes) = true
is_right other = false

-- a strict check looks further only if all hashes or checksums are right
abbrev pub strict_verdict : Terms → List ℕ → Checked (List ℕ) → Verdict
strict_verdict terms file (checked.Fit finding) =
    if is_right finding then fit_verdict terms file (checked.Fit finding)
    else Finds (checked.Fit finding) None
strict_verdict terms file checked.Right = header_verdict terms.required (loose_legacy file)
strict_verdict terms file checked.Damaged = Finds checked.Damaged None
strict_verdict terms file checked.Weak = unsigned_or terms.required (Finds checked.Weak None)

-- the verdict by what is found
abbrev pub verdict_by : Terms → List ℕ → Result (Checked (List ℕ)) Fault → Verdict
verdict_by terms file (Ok found) =
    if terms.is_strict then strict_verdict terms file found else Finds found None
verdict_by terms file (Err fault) = Refuses fault

-- the verdict of a check about a file, whose first bytes decide the format
abbrev pub verdict_of : Terms → List ℕ → Verdict
verdict_of terms file = verdict_by terms file (check_of (is_fit form.Guess file) terms.need file)
