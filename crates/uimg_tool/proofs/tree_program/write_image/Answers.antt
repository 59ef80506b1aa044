use Rattle.std.proofs.Common.{Ok, ◌∙◌, ◌≤◌, ℕ, ap, is_err, subst, sym, arith}
use Rattle.uimg_tool.specs.Statuses.{end_status}
use Rattle.uimg_tool.proofs.OldMakingLaws.{finishes_made, left_in_place, made_beside, made_in_place, tree_is_done}
use Rattle.uimg_tool.proofs.StatusLaws.{failed, told_fails}
use Rattle.uimg_tool.proofs.TreeLaws.{at_device}
use Rattle.uimg_tool.proofs.tree_program.write_image.Goals as goal

pub returns-in-Ok-Some-clause-made : goal.returns-in-Ok-Some-clause-made
returns-in-Ok-Some-clause-made g c =
    made_beside c.args.request.image.now c.tell_made.result c.begin_image.result (c.in-Ok-Some.file, c.in-Ok-Some.path) _ _ _ (c.in-Ok-Some.is ∙ ap (λ w. Ok w) c.in-Ok-Some.field-0-is) c.begin_image.ensures.begins
    (finishes_made c.in-Ok-Some.path c.tell_made.result c.make_listed-made.result.end (g.D.World.trace c.begin_image.new.world) (g.D.World.trace c.make_listed-made.new.world) (g.D.World.trace c.tell_made.new.world) c.make_listed-made.ensures.lent c.tell_made.ensures.named c.tell_made.ensures.done
    (tree_is_done c.args.request.image c.make_listed-made.result.end c.make_listed-made.ensures.ends) c.tell_made.ensures.status)

pub returns-else-not-request-clause-made : goal.returns-else-not-request-clause-made
returns-else-not-request-clause-made g c =
    let made = c.make_listed-made-in-Ok-None in
    made_in_place c.args.request.image.now c.tell_end.result (is_err made.result.end) c.begin_image.result (g.D.World.trace c.args.world.now) (g.D.World.trace c.begin_image.new.world) (g.D.World.trace made.new.world) (g.D.World.trace c.tell_end.new.world)
    (c.in-Ok-None.is ∙ ap (λ w. Ok w) c.in-Ok-None.field-0-is) c.begin_image.ensures.begins
    (λ fails. subst (λ (s : ℕ). 1 ≤ s) (sym (c.tell_end.ensures.status ∙ ap end_status c.told-end.ensures)) (told_fails made.result.end made.result.printed fails)) made.ensures.lent c.tell_end.ensures.kept

pub returns-else-not-request-clause-kept : goal.returns-else-not-request-clause-kept
returns-else-not-request-clause-kept g c knows zero honest are =
    let made = c.make_listed-made-in-Ok-None in
    at_device c.args.request.in_place _ _ c.args.request _ made.result.end made.result.printed c.tell_end.result c.if-not-request.false (c.tell_end.ensures.status ∙ ap end_status c.told-end.ensures) zero (made.ensures.kept knows _ honest are)

pub returns-then-not-request-clause-made : goal.returns-then-not-request-clause-made
returns-then-not-request-clause-made g c =
    left_in_place c.args.request.image.now _ c.begin_image.result _ _ (c.in-Ok-None.is ∙ ap (λ w. Ok w) c.in-Ok-None.field-0-is) c.begin_image.ensures.begins (failed _ c.tell_unwritten.ensures.status)

pub returns-in-Err-clause-made : goal.returns-in-Err-clause-made
returns-in-Err-clause-made g c = c.in-Err.ensures.begins

pub returns-in-Err-clause-kept : goal.returns-in-Err-clause-kept
returns-in-Err-clause-kept g c knows zero = absurd (omega (arith, c.in-Err.ensures.failed, zero))
