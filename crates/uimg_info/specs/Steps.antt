-- What the steps of writing an object do.
use Rattle.std.specs.Prelude.{◌≡◌, ℕ, ⊤, List, false, Result, Ok, Err, OnOk, IfOk, IsTrue, Option}
use Rattle.std.specs.{Prelude.{Some, map, Vec}, Borrow.Bor, List.All}
use Rattle.json.specs.{Json.{Json, document}, Print.print, Token.Token, Tree.json_tokens}
use Rattle.json.specs.Written.{Written}
use Rattle.uimg_printing.specs.Steps.{Appends}
use Rattle.uimg_base.specs.{Device.Device, Lent.Lent, Using.Asks, declared.spans.Span.Span}
use Rattle.uimg_blob_reading.specs.Faults.{refuses_memory}
use Rattle.uimg_fit_base.specs.Files.{bytes_in}
use Rattle.uimg_fit_base.specs.declared.fault.Fault.TheVariants as of
use Rattle.uimg_fit_checking.specs.{SurveyParts.{IsOwn, is_unread}, Survey.read_survey}
use Rattle.uimg_fit_checking.specs.declared.surveying.fault.SurveyFault.{SurveyFault}
use Rattle.uimg_fit_checking.specs.declared.surveying.fault.SurveyFault.TheVariants.{Stopped}
use Rattle.uimg_fit_checking.specs.declared.surveying.fault.SurveyFault.TheVariants.{OutOfMemory}
use Rattle.uimg_fit_checking.specs.declared.surveying.fault.SurveyFault.TheVariants.{Changed}
use Rattle.uimg_fit_checking.specs.FullSurvey.{FullInside, read_properties}
use Rattle.uimg_fit_checking.specs.declared.surveying.facts.Survey.{Survey}
use Rattle.uimg_fit_reading.specs.PayloadPlaces.{Ends}
use Rattle.uimg_info.specs.{Fit.{info_of, fit_json}, Reservations.reservations_of, Members.Fact}
use Rattle.uimg_info.specs.Signatures.{SignatureInside, read_signature}
use Rattle.uimg_info.specs.declared.{fit.FitFacts.FitFacts, forms.Form.Form}

-- The text is that of an object.
abbrev pub Prints : {Z : Type 0} → Json → Vec ℕ Z → Type 0
Prints j text = text.items ≡ print (json_tokens j)

-- Read as JSON, the text is an object.
abbrev pub IsJson : {Z : Type 0} → Json → Vec ℕ Z → Type 0
IsJson j text = document text.items ≡ Some j

-- At most `most` bytes were requested, and a failure of the device was counted exactly if a read
-- failed; over an honest device the tokens were appended, unless the step failed.
pub record PutsTokensBetween {X : Type 0} (most : ℕ) (result : Result X SurveyFault) (d e : Device)
    (old new : Written) (tokens : List Token) : Type 0 where
  pub uses : Asks most (is_unread result) d e
  pub own : IsOwn result
  pub before : OnOk result (new.before ≡ old.before)
  pub told : IsTrue d.honest → Appends result old new tokens

-- the same for tokens that depend on the source's bytes
abbrev pub PutsTokens : {S X : Type 0} → ℕ → Result X SurveyFault → (S → Device) → Lent S
    → Lent Written
    → (List ℕ → List Token) → Type 0
PutsTokens most result device source writer tokens = PutsTokensBetween most result
    (device source.entry.now) (device source.exit.now) writer.entry.now writer.exit.now
    (tokens (device source.entry.now).bytes)

-- Tokens were appended, unless memory was refused.
abbrev pub AddsTokens : {X E : Type 0} → Result X E → Lent Written → List Token → Type 0
AddsTokens result writer tokens = Appends result writer.entry.now writer.exit.now tokens

-- a row of the program: the name of a fact's member, the form of its value, and the value's span
abbrev pub MemberRow : Type 0
MemberRow = Bor (List ℕ) × Form × Option Span

-- Its value, if it is present, ends within a file of this size.
abbrev pub RowInside : ℕ → MemberRow → Type 0
RowInside size row = Ends size row.2

-- the fact of a row, read in a file
abbrev pub read_row : List ℕ → MemberRow → Fact
read_row file row = record { name = row.0.now; form = row.1; value = bytes_in file row.2 }

-- The result is the text of the object of a file at a path, or its fault, unless a call failed.
abbrev pub Informs : {X : Type 0} → (X → List ℕ) → List ℕ → List ℕ → Result X SurveyFault → Type 0
Informs view path file (Ok text) =
    (j : Json) × (info_of path file ≡ Ok j) × (view text ≡ print (json_tokens j))
Informs view path file (Err (Stopped (of.Blob fault at))) =
    refuses_memory fault ≡ false → info_of path file ≡ Err (of.Blob fault at)
Informs view path file (Err (Stopped (of.Fit fault))) = info_of path file ≡ Err (of.Fit fault)
Informs view path file (Err (Stopped of.Read)) = ⊤
Informs view path file (Err (Stopped of.Put)) = ⊥
Informs view path file (Err OutOfMemory) = ⊤
Informs view path file (Err Changed) = ⊥

-- All facts end within `size` bytes.
pub record FactsInside (size : ℕ) (facts : FitFacts) : Type 0 where
  pub full : FullInside size facts.full
  pub signatures : All (SignatureInside size) facts.signatures.items

-- the survey of a result
abbrev pub survey_in : Result FitFacts SurveyFault → Result Survey SurveyFault
survey_in (Ok facts) = Ok facts.full.survey
survey_in (Err fault) = Err fault

-- the object of facts, read in a file of `size` bytes at a path
abbrev pub read_json : List ℕ → ℕ → List ℕ → FitFacts → Json
read_json path size file facts =
    fit_json path size (reservations_of file facts.full.survey.totalsize)
    (read_survey file facts.full.survey) (map (read_properties file) facts.full.properties.items)
    (map (read_signature file) facts.signatures.items)

-- P holds for the text of the object of a file of a size with these facts, if there is one.
abbrev pub OfJson : {Z : Type 0} → (Json → Vec ℕ Z → Type 0) → List ℕ → ℕ → FitFacts
    → Result (Vec ℕ Z) SurveyFault → List ℕ → Type 0
OfJson P path size facts result file = IfOk result (P (read_json path size file facts))
