use Rattle.std.proofs.Common.{rules}
use Rattle.std.specs.String.{string_bytes}
use Rattle.uimg_checks.specs.Lines.{answer_line}
use Rattle.uimg_checks.proofs.LineLaws.{line_shown, shown_as}
use Rattle.uimg_checks.proofs.line.line_text.Goals as goal

pub returns-clause-shown : goal.returns-clause-shown
returns-clause-shown c = λ own. shown_as string_bytes c.format.result (answer_line c.args.path.now c.args.answer.now) (line_shown c.args.path.now c.args.answer.now own) (search rules)
