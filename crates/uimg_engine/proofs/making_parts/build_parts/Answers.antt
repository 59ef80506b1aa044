use Rattle.std.proofs.Common.{rules, ◌≡◌, true, is_err}
use Rattle.uimg_blob_writing.proofs.OpenedLaws.{each_of}
use Rattle.uimg_engine.proofs.making_parts.build_parts.Goals as goal

pub returns-in_err-parts-clause-in_order : goal.returns-in_err-parts-clause-in_order
returns-in_err-parts-clause-in_order g c =
    let failed : is_err c.from_residual.result ≡ true = search rules in
    rw failed c.in_err-parts.ensures.in_order

pub returns-clause-in_order : goal.returns-clause-in_order
returns-clause-in_order g c = each_of (is_err c.build_opened.result) _ _ _ c.in_ok-parts.ensures.in_order.all
