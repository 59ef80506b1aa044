-- What a check answers at its end.
use Rattle.std.specs.Prelude.{◌≡◌, ◌⊎◌, ⊤, ℕ, min, take, map, List, codes, Option, Some, None}
use Rattle.std.specs.{Borrow.Bor, Option.option_map, Prelude.{Bool, IsTrue}}
use Rattle.uimg_base.specs.declared.spans.Span.{Span}
use Rattle.uimg_checks.specs.declared.answer.{Configurations.Configurations, Signed.Signed}
use Rattle.uimg_checks.specs.declared.answer.Configurations.TheVariants as configurations
use Rattle.uimg_checks.specs.declared.answer.Format.{Format}
use Rattle.uimg_checks.specs.declared.answer.Format.TheVariants as format
use Rattle.uimg_checks.specs.declared.answer.Stop.{Stop}
use Rattle.uimg_checks.specs.declared.answer.Answer.{Answer}
use Rattle.uimg_checks.specs.declared.answer.Answer.TheVariants.{Found, Refused, Failed}
use Rattle.uimg_checks.specs.declared.answer.Answer.TheVariants as answer
use Rattle.uimg_checks.specs.declared.finding.Checked.{Checked}
use Rattle.uimg_checks.specs.declared.finding.Checked.TheVariants as checked
use Rattle.uimg_checks.specs.Properties.{property_name}
use Rattle.uimg_fit_checking.specs.declared.checking.Finding.{Finding}
use Rattle.uimg_fit_checking.specs.declared.checking.Finding.TheVariants as fit
use Rattle.uimg_engine.specs.FaultTexts.{code_of, text_of}
use Rattle.uimg_engine.specs.declared.fault.Fault.{Fault}
use Rattle.uimg_engine.specs.declared.fault.Fault.TheVariants as engine
use Rattle.uimg_checks.specs.FaultStatuses.{fault_status}
use Rattle.uimg_checks.specs.Verdicts.{ConfigurationsSaid, SignedSaid, Verdict, Finds, Lacks, Loosens, Refuses}
use Rattle.uimg_checks.specs.Verdicts as said
use Rattle.uimg_verifying.specs.Results.{read_result}

-- the format of the image, if a fault shows it
abbrev pub format_of : Fault → Option Format
format_of (engine.Blob fault offset) = Some format.Fit
format_of (engine.Fit fault) = Some format.Fit
format_of (engine.Legacy fault) = Some format.Legacy
format_of fault = None

-- the offset of a fault, if it has one
abbrev pub offset_of : Fault → Option ℕ
offset_of (engine.Blob fault offset) = Some offset
offset_of fault = None

-- a name or a code that may be told
abbrev pub told_name : Option (Bor (List ℕ)) → Option (List ℕ)
told_name name = option_map (λ told. told.now) name

-- what is told of a fault
pub record TellsFault (fault : Fault) (number : ℕ) (stop : Stop) : Type 0 where
  pub status : fault_status fault ≡ number
  pub message : stop.message.now ≡ text_of fault
  pub code : told_name stop.code ≡ code_of fault
  pub format : stop.format ≡ format_of fault
  pub offset : stop.offset ≡ offset_of fault

-- what is told where memory for the line was refused
pub record TellsNoMemory (stop : Stop) : Type 0 where
  pub message : stop.message.now ≡ codes "out of memory"
  pub code : stop.code ≡ None
  pub format : stop.format ≡ None
  pub offset : stop.offset ≡ None

-- The image is refused exactly by a fault of status 1. Another failed, or there was no memory for the
-- line.
abbrev pub AnswersFault : Fault → Answer → Type 0
AnswersFault fault (Refused stop) = TellsFault fault 1 stop
AnswersFault fault (Failed stop) = TellsFault fault 3 stop ⊎ TellsNoMemory stop
AnswersFault fault answer = ⊥

-- A line without a code is answered as a refusal only if it is one.
abbrev pub AnswersLine : Bool → Answer → Type 0
AnswersLine is_refused (Refused stop) = IsTrue is_refused
AnswersLine is_refused (Failed stop) = ⊤
AnswersLine is_refused answer = ⊥

-- what is told of signatures and of configurations
abbrev pub read_signed : Signed → SignedSaid
read_signed signed = record {
  only = told_name signed.only;
  by = signed.by.now;
  signatures = map read_result signed.signatures.now;
}

abbrev pub read_configurations : Configurations → ConfigurationsSaid
read_configurations (configurations.Unchecked nodes) = said.Unchecked nodes
read_configurations (configurations.Signed signed) = said.Signed (read_signed signed)

-- the names of a finding
abbrev pub fit_names : Finding (Bor (List ℕ)) → Finding (List ℕ)
fit_names (fit.Right images nodes) = fit.Right images nodes
fit_names (fit.Unhashed image) = fit.Unhashed image.now
fit_names (fit.Wrong image hash word) = fit.Wrong image.now hash.now word
fit_names (fit.Weak image) = fit.Weak image.now
fit_names (fit.Overlapping image) = fit.Overlapping image.now
fit_names fit.NoImage = fit.NoImage

abbrev pub names_in : Checked (Bor (List ℕ)) → Checked (List ℕ)
names_in (checked.Fit finding) = checked.Fit (fit_names finding)
names_in checked.Right = checked.Right
names_in checked.Damaged = checked.Damaged
names_in checked.Weak = checked.Weak

-- the names of a finding in buffers of 255 bytes
abbrev pub kept_names : List ℕ → List ℕ → Finding Span → Finding (List ℕ)
kept_names images hashes (fit.Right count nodes) = fit.Right count nodes
kept_names images hashes (fit.Unhashed image) = fit.Unhashed (take (min image.length 255) images)
kept_names images hashes (fit.Wrong image hash word) =
    fit.Wrong (take (min image.length 255) images) (take (min hash.length 255) hashes) word
kept_names images hashes (fit.Weak image) = fit.Weak (take (min image.length 255) images)
kept_names images hashes (fit.Overlapping image) =
    fit.Overlapping (take (min image.length 255) images)
kept_names images hashes fit.NoImage = fit.NoImage

-- The answer is this verdict.
abbrev pub IsVerdict : Answer → Verdict → Type 0
IsVerdict (Found told more) (Finds found configurations) =
    (names_in told ≡ found) × (option_map read_configurations more ≡ configurations)
IsVerdict (Found told more) other = ⊥
IsVerdict (answer.Missing configuration property name) (Lacks said) =
    (told_name configuration ≡ said.configuration)
    × (property.now ≡ property_name said.reference) × (name.now ≡ said.name)
IsVerdict (answer.Missing configuration property name) other = ⊥
IsVerdict (answer.Loose shown told name signatures) (Loosens form why node said) =
    (shown ≡ form) × (told ≡ why) × (told_name name ≡ node)
    × (map read_result signatures.now ≡ said)
IsVerdict (answer.Loose shown told name signatures) other = ⊥
IsVerdict (Refused stop) (Refuses fault) = TellsFault fault 1 stop
IsVerdict (Refused stop) other = ⊥
IsVerdict (Failed stop) verdict = ⊥

-- the same, or that the check failed
abbrev pub Shows : Answer → Verdict → Type 0
Shows (Failed stop) verdict = ⊤
Shows (Found told more) verdict = IsVerdict (Found told more) verdict
Shows (answer.Missing configuration property name) verdict =
    IsVerdict (answer.Missing configuration property name) verdict
Shows (answer.Loose shown told name signatures) verdict =
    IsVerdict (answer.Loose shown told name signatures) verdict
Shows (Refused stop) verdict = IsVerdict (Refused stop) verdict
