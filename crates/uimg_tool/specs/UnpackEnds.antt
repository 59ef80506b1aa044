-- How the unpacking of either format ends for the program.
use Rattle.std.specs.Prelude.{◌≡◌, ◌==◌, None, false}
use Rattle.uimg_base.specs.declared.status.Status.TheVariants.{Done, NotRight}
use Rattle.uimg_checks.specs.CheckEnds.{AnswersFault, AnswersLine}
use Rattle.uimg_checks.specs.declared.answer.Answer.{Answer, TheVariants.{Found}}
use Rattle.uimg_checks.specs.declared.finding.Checked.TheVariants as checked
use Rattle.uimg_fit_checking.specs.declared.checking.Finding.TheVariants as finding
use Rattle.uimg_tool.specs.Statuses.{trouble_status}
use Rattle.uimg_engine.specs.Faults.{of_fit, of_legacy}
use Rattle.uimg_unpacking.specs.declared.unpacking.Ended.{Ended}
use Rattle.uimg_unpacking.specs.declared.unpacking.Ended.TheVariants as ended
use Rattle.uimg_tool.specs.declared.unpack_answers.Ending.{Ending}
use Rattle.uimg_tool.specs.declared.unpack_answers.Ending.TheVariants as ending

-- the same with the fault of either format as that of any
abbrev pub end_of : Ended → Ending
end_of ended.Kept = ending.Told Done
end_of ended.Refused = ending.Told NotRight
end_of ended.NoImage = ending.NoImage
end_of ended.Weak = ending.Weak
end_of (ended.Stopped fault) = ending.Stopped (of_fit fault)
end_of (ended.StoppedLegacy fault) = ending.Stopped (of_legacy fault)
end_of (ended.Troubled trouble) = ending.Troubled trouble

-- what is answered where the end of an unpacking is told by no line
abbrev pub AnswersEnding : Ending → Answer → Type 0
AnswersEnding (ending.Told status) answer = AnswersLine false answer
AnswersEnding (ending.Unsigned unsigned) answer = AnswersLine false answer
AnswersEnding ending.Unread answer = AnswersLine false answer
AnswersEnding ending.Weak answer = answer ≡ Found checked.Weak None
AnswersEnding ending.NoImage answer = answer ≡ Found (checked.Fit finding.NoImage) None
AnswersEnding (ending.Stopped fault) answer = AnswersFault fault answer
AnswersEnding (ending.Troubled trouble) answer = AnswersLine (trouble_status trouble == 1) answer
