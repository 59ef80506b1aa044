use Rattle.std.proofs.{Common.{rules, refl}, lemmas.Result.err_from_is_err_and}
use Rattle.uimg_legacy.proofs.report.report_data.Goals as goal

pub returns-in_err-put_all : goal.returns-in_err-put_all
returns-in_err-put_all g c =
    let failed = err_from_is_err_and c.from_residual-in_err-put_all.result c.from_residual-in_err-put_all.ensures.1 in
    record { uses = search rules; room = search rules; faults = search rules; no_making = search rules; told = λ honest. rw (failed.1, failed.2, c.in_ok-has_right_data.ensures.reads.answer honest, c.if-branch.true) c.in_err-put_all.ensures.writes.prefix }

pub returns-in_err-put_all-2 : goal.returns-in_err-put_all-2
returns-in_err-put_all-2 g c =
    let failed = err_from_is_err_and c.from_residual-in_err-put_all-2.result c.from_residual-in_err-put_all-2.ensures.1 in
    record { uses = search rules; room = search rules; faults = search rules; no_making = search rules; told = λ honest. rw (failed.1, failed.2, c.in_ok-has_right_data.ensures.reads.answer honest, c.if-branch.false) c.in_err-put_all-2.ensures.writes.prefix }

pub returns-in_ok-put_all : goal.returns-in_ok-put_all
returns-in_ok-put_all g c = record { uses = search rules; room = search rules; faults = search rules; no_making = search rules; told = λ honest. rw (c.in_ok-has_right_data.ensures.reads.answer honest, c.if-branch.true) (refl, c.in_ok-put_all.ensures.writes.all) }

pub returns-in_ok-put_all-2 : goal.returns-in_ok-put_all-2
returns-in_ok-put_all-2 g c = record { uses = search rules; room = search rules; faults = search rules; no_making = search rules; told = λ honest. rw (c.in_ok-has_right_data.ensures.reads.answer honest, c.if-branch.false) (refl, c.in_ok-put_all-2.ensures.writes.all) }
