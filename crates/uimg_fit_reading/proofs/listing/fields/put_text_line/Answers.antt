use Rattle.std.proofs.Common.{refl}
use Rattle.uimg_fit_reading.proofs.PutLaws.{puts_from, label_stops, text_stops, line_ends}
use Rattle.uimg_fit_reading.proofs.listing.fields.put_text_line.Goals as goal

pub returns-in_err-put : goal.returns-in_err-put
returns-in_err-put g c = puts_from refl (label_stops _ _ _ _ _ _ _ _ c.from_residual.ensures.1 c.in_err-put.ensures)

pub returns-in_err-put_text : goal.returns-in_err-put_text
returns-in_err-put_text g c = puts_from c.put_text.ensures.room
    (text_stops {Y = Unit} _ _ _ _ _ _ _ _ _ _ _ c.from_residual-in_err-put_text.ensures.1 c.in_ok-put.ensures (record { uses = c.in_err-put_text.ensures.uses; faults = c.in_err-put_text.ensures.faults; told = c.in_err-put_text.ensures.told }))

pub returns : goal.returns
returns g c = puts_from c.put_text.ensures.room (line_ends {Y = Unit} _ _ tt _ _ _ _ _ _ _ _ _ c.in_ok-put.ensures (record { uses = c.in_ok-put_text.ensures.uses; faults = c.in_ok-put_text.ensures.faults; told = c.in_ok-put_text.ensures.told }) c.put-2.ensures)
