use Rattle.std.proofs.{Common.{refl, sym}, lemmas.Result.err_from_is_err_and}
use Rattle.uimg_base.proofs.{SinkLaws.prefix_first, OutcomeLaws.Tells-after}
use Rattle.uimg_legacy.proofs.SourceLaws.{honest_still}
use Rattle.uimg_legacy.proofs.report.verify.Goals as goal

pub returns-in_err-put_all-clause-told : goal.returns-in_err-put_all-clause-told
returns-in_err-put_all-clause-told g c = λ honest.
    let failed = err_from_is_err_and c.from_residual-in_err-put_all.result c.from_residual-in_err-put_all.ensures.1 in
    rw (failed.1, failed.2, c.in_ok-bytes.ensures.gives honest, sym c.if-has_right_crc.ensures) (prefix_first _ _ _ _ c.in_err-put_all.ensures.writes.prefix)

pub returns-in_ok-put_all-clause-told : goal.returns-in_ok-put_all-clause-told
returns-in_ok-put_all-clause-told g c = λ honest.
    let same = c.read_head.ensures.reads.uses.same in
    let rest = rw same.bytes at c.report_data.ensures.told (honest_still same honest) in
    rw (c.in_ok-bytes.ensures.gives honest, sym c.if-has_right_crc.ensures, sym c.fields.ensures.fields) (Tells-after _ _ _ _ _ _ c.in_ok-put_all.ensures.writes.all rest)

pub returns-in_ok-put_all-2-clause-told : goal.returns-in_ok-put_all-2-clause-told
returns-in_ok-put_all-2-clause-told g c = λ honest. rw (c.in_ok-bytes.ensures.gives honest, sym c.if-has_right_crc.ensures) (refl, c.in_ok-put_all-2.ensures.writes.all)
