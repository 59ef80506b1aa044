-- What the strict check reports.
use Rattle.std.specs.Prelude.{◌≡◌, ℕ, List, Option, Some, None, Result, Ok, Err}
use Rattle.std.specs.Option.{option_map}
use Rattle.uimg_c.specs.declared.{codes.Code.Code, reports.UimgReport.UimgReport}
use Rattle.uimg_c.specs.Codes.{code_of_answer, code_of_fault, refusal, strength}
use Rattle.uimg_checks.specs.{declared.finding.Checked.Checked, Finding.check_of}
use Rattle.uimg_checks.specs.declared.finding.Checked.TheVariants as checked
use Rattle.uimg_fit_checking.specs.declared.checking.Finding.{Finding}
use Rattle.uimg_fit_checking.specs.declared.checking.Finding.TheVariants.{Right, Unhashed, Wrong}
use Rattle.uimg_fit_checking.specs.declared.checking.Finding.TheVariants.{Weak, Overlapping}
use Rattle.uimg_fit_checking.specs.declared.checking.Finding.TheVariants.{NoImage}
use Rattle.uimg_sums.specs.declared.algo.Algo.{Algo}
use Rattle.uimg_base.specs.declared.status.Status.TheVariants.{Done, NotRight}
use Rattle.uimg_engine.specs.{declared.fault.Fault.Fault, Faults.of_fit, Headline.is_fit}
use Rattle.uimg_engine.specs.declared.fault.Fault.TheVariants.{Legacy}
use Rattle.uimg_fit_base.specs.declared.fault.Fault.{Fault as FitEngineFault}
use Rattle.uimg_legacy.specs.declared.fault.LegacyFault.{LegacyFault}
use Rattle.uimg_requests.specs.declared.command.Form.TheVariants as form
use Rattle.uimg_strict.specs.{Headers.loose_legacy, Looseness.{LooseSaid, looseness_of}}
use Rattle.uimg_strict.specs.declared.loose.Looseness.{Looseness}
use Rattle.uimg_strict.specs.declared.loose.Looseness.TheVariants as loose

-- S1 to S24
abbrev pub loose_number : Looseness → ℕ
loose_number loose.NoDescription = 1
loose_number loose.NoTimestamp = 2
loose_number loose.UnitAddress = 3
loose_number loose.DoubledNode = 4
loose_number loose.DoubledProperty = 5
loose_number loose.IgnoredHash = 6
loose_number loose.OddCell = 7
loose_number loose.TwoPayloads = 8
loose_number loose.HalfPlace = 9
loose_number loose.UnsoundBlob = 10
loose_number loose.Misplaced = 11
loose_number loose.EmptyData = 12
loose_number loose.UnknownType = 13
loose_number loose.UnknownArchitecture = 14
loose_number loose.UnknownSystem = 15
loose_number loose.UnknownCompression = 16
loose_number loose.Unsigned = 17
loose_number loose.UnknownSignature = 18
loose_number loose.WeakSignature = 19
loose_number loose.SignedStrings = 20
loose_number loose.SignedNodes = 21
loose_number loose.SignatureLength = 22
loose_number loose.SignatureRange = 23
loose_number loose.BadSignature = 24

-- what strictness refuses of a FIT image, or of a legacy image, or the fault that it finds
abbrev pub why_in_fit : Result (Option LooseSaid) FitEngineFault → Result (Option Looseness) Fault
why_in_fit (Ok found) = Ok (option_map (λ said. said.why) found)
why_in_fit (Err fault) = Err (of_fit fault)

abbrev pub why_in_legacy : Result (Option Looseness) LegacyFault → Result (Option Looseness) Fault
why_in_legacy (Ok found) = Ok found
why_in_legacy (Err fault) = Err (Legacy fault)

-- the numbers of what is refused: the letter S, and the number of the word
abbrev pub code_of_loose : Result (Option Looseness) Fault → Option Code
code_of_loose (Ok None) = code_of_answer (Ok Done)
code_of_loose (Ok (Some why)) = Some (refusal 83 (loose_number why) 0)
code_of_loose (Err fault) = code_of_fault fault

-- the numbers by a finding: if all is right, of what strictness refuses of the image
abbrev pub if_right : List ℕ → Finding (List ℕ) → Option Code
if_right image (Right payloads nodes) = code_of_loose (why_in_fit (looseness_of image))
if_right image (Unhashed node) = code_of_answer (Ok NotRight)
if_right image (Wrong node hash word) = code_of_answer (Ok NotRight)
if_right image (Weak node) = code_of_answer (Ok NotRight)
if_right image (Overlapping node) = code_of_answer (Ok NotRight)
if_right image NoImage = code_of_answer (Ok NotRight)

abbrev pub strictly : List ℕ → Result (Checked (List ℕ)) Fault → Option Code
strictly image (Ok (checked.Fit finding)) = if_right image finding
strictly image (Ok checked.Right) = code_of_loose (why_in_legacy (loose_legacy image))
strictly image (Ok checked.Damaged) = code_of_answer (Ok NotRight)
strictly image (Ok checked.Weak) = code_of_answer (Ok NotRight)
strictly image (Err fault) = code_of_fault fault

-- the numbers of a strict check for an algorithm
abbrev pub strict_code_for : Algo → List ℕ → Option Code
strict_code_for need image = strictly image (check_of (is_fit form.Guess image) (Some need) image)

-- the same, if the algorithm is known; else no image meets it
abbrev pub strict_code : Option Algo → List ℕ → Option Code
strict_code None image = code_of_answer (Ok NotRight)
strict_code (Some need) image = strict_code_for need image

-- A report without a text has the end of a strict check.
pub record ReportsStrict (need : ℕ) (image : List ℕ) (report : UimgReport) : Type 0 where
  pub code : strict_code (strength need) image ≡ Some
      (record { status = report.status; fault = report.fault; place = report.place })
  pub no_text : (report.needed ≡ 0) × (report.written ≡ 0)
