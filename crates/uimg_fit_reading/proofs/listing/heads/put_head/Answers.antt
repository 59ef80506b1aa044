use Rattle.std.proofs.Common.{arith}
use Rattle.uimg_fit_reading.specs.Heads.{span_size, created_line}
use Rattle.uimg_fit_reading.proofs.PutLaws.{of_own, from_stops, from_then, from_puts, puts_from}
use Rattle.uimg_fit_reading.proofs.listing.heads.put_head.Goals as goal

pub returns-in_err-put_description : goal.returns-in_err-put_description
returns-in_err-put_description g c = puts_from c.put_description.ensures.room (from_stops _ _ _ _ _ _ _ _ _ _ c.from_residual.ensures.1 (omega arith) (from_puts c.in_err-put_description.ensures))

pub returns : goal.returns
returns g c = puts_from c.put_description.ensures.room
    (from_then (span_size c.args.description) 0 (span_size c.args.description) _ _ _ _ _ _ _ _ _ (λ _. created_line c.args.time) (omega arith)
    (from_puts c.in_ok-put_description.ensures) (of_own _ _ _ _ _ c.put_created.ensures))
