use Rattle.std.proofs.Common.{◌∙◌, ap}
use Rattle.std.specs.{List.list_any, Str.bytes_eq}
use Rattle.uimg_compat.specs.DtcChecks.{dtc_checks, is_check}
use Rattle.uimg_compat.proofs.dtc_checks.is_check.Goals as goal

pub returns : goal.returns
unfolding is_check dtc_checks
returns c = c.is_among.ensures ∙ ap (λ name. list_any (λ known. bytes_eq known name) dtc_checks) c.without_no.ensures
