-- The result of a check: its status and its word.
use Rattle.std.specs.Prelude.{ℕ, List, codes}
use Rattle.uimg_base.specs.declared.status.Status.{Status}
use Rattle.uimg_base.specs.declared.status.Status.TheVariants.{Done, NotRight}
use Rattle.uimg_fit_base.specs.Report.{word_text}
use Rattle.uimg_fit_checking.specs.declared.checking.Finding.{Finding}
use Rattle.uimg_fit_checking.specs.declared.checking.Finding.TheVariants as fit_finding
use Rattle.uimg_checks.specs.declared.answer.Answer.{Answer}
use Rattle.uimg_checks.specs.declared.answer.Answer.TheVariants.{Found, Missing, Loose, Refused}
use Rattle.uimg_checks.specs.declared.answer.Answer.TheVariants.{Failed}
use Rattle.uimg_checks.specs.declared.finding.Checked.{Checked}
use Rattle.uimg_checks.specs.declared.finding.Checked.TheVariants as checked
use Rattle.uimg_checks.specs.Finding as of
use Rattle.uimg_strict.specs.Words as strict

abbrev pub exit_status : Status → ℕ
exit_status Done = 0
exit_status NotRight = 1

abbrev pub answer_status : Answer → ℕ
answer_status (Found found configurations) = exit_status (of.status_of found)
answer_status (Missing configuration property name) = 1
answer_status (Loose format why place signatures) = 1
answer_status (Refused stop) = 1
answer_status (Failed stop) = 3

abbrev pub finding_word : {N : Type 0} → Finding N → List ℕ
finding_word (fit_finding.Right images nodes) = codes "ok"
finding_word (fit_finding.Unhashed image) = codes "unhashed"
finding_word (fit_finding.Wrong image hash word) = word_text word
finding_word (fit_finding.Weak image) = codes "weak"
finding_word (fit_finding.Overlapping image) = codes "overlapping"
finding_word fit_finding.NoImage = codes "empty"

abbrev pub found_word : {N : Type 0} → Checked N → List ℕ
found_word (checked.Fit finding) = finding_word finding
found_word checked.Right = codes "ok"
found_word checked.Damaged = codes "bad"
found_word checked.Weak = codes "weak"

abbrev pub answer_word : Answer → List ℕ
answer_word (Found found configurations) = found_word found
answer_word (Missing configuration property name) = codes "missing"
answer_word (Loose format why place signatures) = strict.word_of why
answer_word (Refused stop) = codes "refused"
answer_word (Failed stop) = codes "failed"
