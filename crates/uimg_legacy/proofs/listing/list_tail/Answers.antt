use Rattle.std.proofs.{Common.{rules, ◌≡◌, ◌∙◌, true, sym}, lemmas.Result.err_from_is_err_and}
use Rattle.uimg_base.proofs.{SinkLaws.prefix_first, OutcomeLaws.Tells-after}
use Rattle.uimg_legacy.specs.Parts.{has_parts}
use Rattle.uimg_legacy.proofs.SourceLaws.{honest_still, reports_by}
use Rattle.uimg_legacy.proofs.listing.list_tail.Goals as goal

pub returns-in_err-put_all : goal.returns-in_err-put_all
returns-in_err-put_all g c =
    let has : has_parts c.args.header.now.kind ≡ true = sym c.has_parts.ensures ∙ c.if-not-has_parts.false in
    let failed = err_from_is_err_and c.from_residual-in_err-put_all.result c.from_residual-in_err-put_all.ensures.1 in
    reports_by (rw has (search rules)) (search rules) (search rules) (search rules) (λ honest. rw (failed.1, failed.2, has, (c.in_ok-count.ensures.reads.answer honest).0) (prefix_first _ _ _ _ c.in_err-put_all.ensures.writes.prefix))

pub returns : goal.returns
returns g c =
    let has : has_parts c.args.header.now.kind ≡ true = sym c.has_parts.ensures ∙ c.if-not-has_parts.false in
    reports_by (rw has (search rules)) (search rules) (search rules) (search rules) (λ honest.
    let same = c.count_sizes.ensures.reads.uses.same in
    let counts = c.in_ok-count.ensures.reads.answer honest in
    let lines = rw same.bytes at c.list_parts.ensures.told (honest_still same honest) in
    rw (has, counts.0, sym counts.1) (Tells-after _ _ _ _ _ _ c.in_ok-put_all.ensures.writes.all (lines counts.1)))
