use Rattle.std.proofs.Common.{ℕ, ◌+◌, List, ◌++◌, ◌∙◌, codes, arith}
use Rattle.uimg_fit_reading.specs.Values.{in_span}
use Rattle.uimg_fit_reading.proofs.PutLaws.{from_stops, from_then, from_puts, puts_from}
use Rattle.uimg_fit_reading.proofs.report.hash_lines.put_names.Goals as goal

pub returns-in_err-put_name : goal.returns-in_err-put_name
returns-in_err-put_name g c = puts_from c.put_name.ensures.room (from_stops _ _ _ _ _ _ _ _ _ _ c.from_residual.ensures.1 (omega arith) (from_puts c.in_err-put_name.ensures))

pub returns : goal.returns
returns g c = puts_from (c.put_name-2.ensures.room ∙ c.put_name.ensures.room)
    (from_then c.args.line.image.length c.args.line.hash.length (c.args.line.image.length + c.args.line.hash.length) _ _ _ _ _ _ _ _ _
    (λ (file : List ℕ). in_span file c.args.line.hash ++ codes " ") (omega arith) (from_puts c.in_ok-put_name.ensures) (from_puts c.put_name-2.ensures))
