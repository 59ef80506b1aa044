use Rattle.std.proofs.Common.{ℕ, ◌+◌, List, ◌∙◌, arith}
use Rattle.uimg_fit_reading.specs.Plans.{span_length, end_text}
use Rattle.uimg_fit_reading.proofs.PutLaws.{from_stops, from_then, from_puts, puts_from}
use Rattle.uimg_fit_reading.proofs.report.hash_lines.put_hash_line.Goals as goal

pub returns-in_err-put_names : goal.returns-in_err-put_names
returns-in_err-put_names g c = puts_from c.put_names.ensures.room (from_stops _ _ _ _ _ _ _ _ _ _ c.from_residual.ensures.1 (omega arith) (from_puts c.in_err-put_names.ensures))

pub returns : goal.returns
returns g c = puts_from (c.put_end.ensures.room ∙ c.put_names.ensures.room)
    (from_then (c.args.line.image.length + c.args.line.hash.length) (span_length c.args.line.algo) (c.args.line.image.length + c.args.line.hash.length + span_length c.args.line.algo) _ _ _ _ _ _ _ _ _
    (λ (file : List ℕ). end_text file c.args.line) (omega arith) (from_puts c.in_ok-put_names.ensures) (from_puts c.put_end.ensures))
