use Rattle.std.{proofs.Common.{rules, ◌≡◌, true}, specs.Prelude.is_err}
use Rattle.uimg_base.proofs.WritingLaws.{stops, ◌▷◌}
use Rattle.uimg_legacy.proofs.lines.put_head.Goals as goal

pub returns-in_err-put_type : goal.returns-in_err-put_type
returns-in_err-put_type g c =
    let failed : is_err c.from_residual-in_err-put_type.result ≡ true = search rules in
    rw failed (stops _ _ _ _ (stops _ _ _ _ (stops _ _ _ _ (c.in_ok-put_name.ensures ▷ c.in_ok-put_time.ensures ▷ c.in_err-put_type.ensures))))

pub returns-in_err-put_data_size : goal.returns-in_err-put_data_size
returns-in_err-put_data_size g c =
    let failed : is_err c.from_residual-in_err-put_data_size.result ≡ true = search rules in
    rw failed (stops _ _ _ _ (stops _ _ _ _ (c.in_ok-put_name.ensures ▷ c.in_ok-put_time.ensures ▷ c.in_ok-put_type.ensures ▷ c.in_err-put_data_size.ensures)))

pub returns-in_err-put_load : goal.returns-in_err-put_load
returns-in_err-put_load g c =
    let failed : is_err c.from_residual-in_err-put_load.result ≡ true = search rules in
    rw failed (stops _ _ _ _ (c.in_ok-put_name.ensures ▷ c.in_ok-put_time.ensures ▷ c.in_ok-put_type.ensures ▷ c.in_ok-put_data_size.ensures ▷ c.in_err-put_load.ensures))

pub returns : goal.returns
returns g c = c.in_ok-put_name.ensures ▷ c.in_ok-put_time.ensures ▷ c.in_ok-put_type.ensures ▷ c.in_ok-put_data_size.ensures ▷ c.in_ok-put_load.ensures ▷ c.put_entry.ensures
