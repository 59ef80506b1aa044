-- A report of a check as JUnit writes it, in XML: a test case an image (the schema of Jenkins' plugin,
-- docs/junit.xsd).
use Rattle.std.specs.Prelude.{ℕ, ◌+◌, ◌==◌, List, [], ◌∷◌, ◌++◌, Bool, true, false, not, ◌&&◌, codes, decimal, if◌then◌else◌}
use Rattle.uimg_checks.specs.{Answers.{answer_status, answer_word}, Lines.answer_line}
use Rattle.uimg_checks.specs.declared.answer.Answer.{Answer}
use Rattle.uimg_checks.specs.declared.test_report.TestReport.{TestReport}
use Rattle.uimg_printing.specs.{Escaping.escaped, Printing.printed}

-- the test case of an image, up to what is wrong with it
abbrev pub opening : List ℕ → List ℕ
opening name = codes "    <testcase name=\"" ++ escaped name ++ codes "\" classname=\"uimg.check\" time=\"0\""

-- the line of an image, as an attribute and as a text: readers show either
abbrev pub told_line : List ℕ → List ℕ
told_line line = codes " message=\"" ++ escaped line ++ codes "\">" ++ escaped line

-- the element of what is wrong with an image, by its name and its word
abbrev pub beginning : List ℕ → List ℕ → List ℕ
beginning element word = codes "      <" ++ element ++ codes " type=\"" ++ word ++ codes "\""

abbrev pub failing : List ℕ → List ℕ → List ℕ → List ℕ
failing element word line =
    beginning element word ++ told_line line ++ codes "</" ++ element ++ codes ">\n"

-- whether a status is that of an image that could not be read, or that is refused or not right
abbrev pub is_error : ℕ → Bool
is_error status = status == 3

abbrev pub is_failure : ℕ → Bool
is_failure status = not (status == 0) && not (is_error status)

abbrev pub element_of : ℕ → List ℕ
element_of status = if is_error status then codes "error" else codes "failure"

-- a test case by the status of its image
unfoldable pub case_by : ℕ → (name word line : List ℕ) → List ℕ
case_by status name word line = if status == 0 then opening name ++ codes "/>\n"
    else opening name ++ codes ">\n" ++ failing (element_of status) word line ++ codes "    </testcase>\n"

abbrev pub case_text : List ℕ → Answer → List ℕ
case_text path answer =
    case_by (answer_status answer) (printed false path) (answer_word answer) (answer_line path answer)

-- the test cases of the images so far, and how many there are of each sort
pub record Reported : Type 0 where
  pub cases : List ℕ
  pub tests : ℕ
  pub failures : ℕ
  pub errors : ℕ

abbrev pub reported : TestReport → Reported
reported report = record {
  cases = report.cases.items;
  tests = report.tests;
  failures = report.failures;
  errors = report.errors;
}

abbrev pub nothing_reported : Reported
nothing_reported = record { cases = []; tests = 0; failures = 0; errors = 0 }

-- one more, if this one counts
abbrev pub counted_if : Bool → ℕ → ℕ
counted_if true number = number + 1
counted_if false number = number

-- the same with an image more
abbrev pub with_case : List ℕ → Answer → Reported → Reported
with_case path answer before = record {
  cases = before.cases ++ case_text path answer;
  tests = counted_if true before.tests;
  failures = counted_if (is_failure (answer_status answer)) before.failures;
  errors = counted_if (is_error (answer_status answer)) before.errors;
}

-- the same with some images more
abbrev pub with_cases : List (List ℕ × Answer) → Reported → Reported
with_cases [] before = before
with_cases (image ∷ images) before = with_cases images (with_case image.0 image.1 before)

-- how many images there are, and of these how many failures and errors
abbrev pub counts_text : ℕ → ℕ → ℕ → List ℕ
counts_text tests failures errors = codes "tests=\"" ++ decimal tests ++ codes "\" failures=\""
    ++ decimal failures ++ codes "\" errors=\"" ++ decimal errors ++ codes "\""

unfoldable pub head_text : ℕ → ℕ → ℕ → List ℕ
head_text tests failures errors =
    codes "<?xml version=\"1.0\" encoding=\"UTF-8\"?>\n<testsuites>\n  <testsuite name=\"uimg check\" "
    ++ counts_text tests failures errors ++ codes " time=\"0\">\n"

-- the report
abbrev pub report_text : Reported → List ℕ
report_text report = head_text report.tests report.failures report.errors ++ report.cases
    ++ codes "  </testsuite>\n</testsuites>\n"

-- the report of some images
abbrev pub report_of : List (List ℕ × Answer) → List ℕ
report_of images = report_text (with_cases images nothing_reported)
