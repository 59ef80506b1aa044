use Rattle.std.proofs.Common.{sym, ◌∙◌}
use Rattle.uimg_checks.proofs.StrictLaws.{further_shown}
use Rattle.uimg_checks.proofs.judging.answer_of_blob.Goals as goal

pub returns-then-is_right-clause-shown : goal.returns-then-is_right-clause-shown
returns-then-is_right-clause-shown g c =
    let device = g.S.Source.device in
    further_shown c.args.terms.now (device c.args.source.now) (device c.check_in.new.source) (device c.look_further-further.new.source) c.in-Ok.finding c.look_further-further.result c.answer_of_further.result c.if-terms.true
    (sym c.is_right.ensures ∙ c.if-is_right.true) c.in-Ok.ensures.leaves.uses.same c.look_further-further.ensures.same c.in-Ok.ensures.told c.look_further-further.ensures.told c.answer_of_further.ensures.shown
