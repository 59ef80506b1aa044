use Rattle.std.proofs.Common.{codes, arith}
use Rattle.uimg_base.specs.Outcome.{line}
use Rattle.uimg_fit_reading.proofs.PutLaws.{of_own, from_stops, from_then, from_puts, puts_from}
use Rattle.uimg_fit_reading.proofs.report.hash_lines.put_unhashed.Goals as goal

pub returns-in_err-put_span : goal.returns-in_err-put_span
returns-in_err-put_span g c = puts_from c.put_span.ensures.room (from_stops _ _ _ _ _ _ _ _ _ _ c.from_residual.ensures.1 (omega arith) (from_puts c.in_err-put_span.ensures))

pub returns : goal.returns
returns g c = puts_from c.put_span.ensures.room
    (from_then c.args.image.length 0 c.args.image.length _ _ _ _ _ _ _ _ _ (λ _. line (codes " - none unhashed")) (omega arith) (from_puts c.in_ok-put_span.ensures) (of_own _ _ _ _ _ c.put.ensures))
