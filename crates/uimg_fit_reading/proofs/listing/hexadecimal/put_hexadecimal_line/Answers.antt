use Rattle.uimg_fit_reading.proofs.PutLaws.{label_stops, text_stops, line_ends}
use Rattle.uimg_fit_reading.proofs.listing.hexadecimal.put_hexadecimal_line.Goals as goal

pub returns-in_err-put : goal.returns-in_err-put
returns-in_err-put g c = label_stops _ _ _ _ _ _ _ _ c.from_residual.ensures.1 c.in_err-put.ensures

pub returns-in_err-put_hexadecimal : goal.returns-in_err-put_hexadecimal
returns-in_err-put_hexadecimal g c =
    text_stops _ _ _ _ _ _ _ _ _ _ _ c.from_residual-in_err-put_hexadecimal.ensures.1 c.in_ok-put.ensures c.in_err-put_hexadecimal.ensures

pub returns : goal.returns
returns g c = line_ends _ _ _ _ _ _ _ _ _ _ _ _ c.in_ok-put.ensures c.in_ok-put_hexadecimal.ensures c.put-2.ensures
