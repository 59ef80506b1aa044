use Rattle.std.proofs.Common.{◌++◌, codes, arith}
use Rattle.uimg_base.specs.Outcome.{line}
use Rattle.uimg_fit_base.specs.Report.{word_text}
use Rattle.uimg_fit_reading.specs.Plans.{span_length}
use Rattle.uimg_fit_reading.proofs.PutLaws.{of_own, from_stops, from_then, from_puts, puts_from}
use Rattle.uimg_fit_reading.proofs.report.hash_lines.put_end.Goals as goal

pub returns-in_err-put_algo : goal.returns-in_err-put_algo
returns-in_err-put_algo g c = puts_from c.put_algo.ensures.room (from_stops _ _ _ _ _ _ _ _ _ _ c.from_residual.ensures.1 (omega arith) (from_puts c.in_err-put_algo.ensures))

pub returns : goal.returns
returns g c = puts_from c.put_algo.ensures.room
    (from_then (span_length c.args.line.algo) 0 (span_length c.args.line.algo) _ _ _ _ _ _ _ _ _ (λ _. line (codes " " ++ word_text c.args.line.word)) (omega arith)
    (from_puts c.in_ok-put_algo.ensures) (of_own _ _ _ _ _ c.put_word.ensures))
