use Rattle.std.proofs.lemmas.Result.{err_from_is_err_and}
use Rattle.uimg_base.proofs.{SinkLaws.prefix_first, OutcomeLaws.Tells-after}
use Rattle.uimg_legacy.proofs.SourceLaws.{honest_still}
use Rattle.uimg_legacy.proofs.listing.list_by.Goals as goal

pub returns-in_err-put_head-clause-told : goal.returns-in_err-put_head-clause-told
returns-in_err-put_head-clause-told g c = λ honest.
    let failed = err_from_is_err_and c.from_residual-in_err-put_head.result c.from_residual-in_err-put_head.ensures.1 in
    rw (failed.1, failed.2, c.in_ok-header.ensures.reads.answer honest) (prefix_first _ _ _ _ c.in_err-put_head.ensures.prefix)

pub returns-clause-told : goal.returns-clause-told
returns-clause-told g c = λ honest.
    let same = c.read_image.ensures.reads.uses.same in
    let tail = rw same.bytes at c.list_tail.ensures.told (honest_still same honest) in
    rw (c.in_ok-header.ensures.reads.answer honest) (Tells-after _ _ _ _ _ _ c.in_ok-put_head.ensures.all tail)
