use Rattle.std.proofs.Common.{Ok, inl, List, ℕ, ◌≤◌, IsTrue, ◌∙◌, ap, subst, sym}
use Rattle.std.specs.Prelude.{is_err}
use Rattle.uimg_tool.specs.{OldMakings.{Begins, MakesFor}, Statuses.end_status}
use Rattle.uimg_tool.proofs.OldAnswerLaws.{end_or_failed, in_new, is_flushed, there}
use Rattle.uimg_tool.proofs.OldMakingLaws.{begun_empty, finishes_made, made_beside, made_in_place, made_is_done}
use Rattle.uimg_tool.proofs.StatusLaws.{told_fails}
use Rattle.uimg_world.specs.Deeds.{Deed}
use Rattle.uimg_tool.proofs.old_files.make_old.Goals as goal

pub returns-in-Ok-None-clause-made : goal.returns-in-Ok-None-clause-made
returns-in-Ok-None-clause-made g c =
    made_in_place c.args.request.now.outfile.now c.tell_end.result (is_err c.make_by-out-in-Ok-None.result.0.end) c.begin_image.result _ (g.D.World.trace c.begin_image.new.world) (g.D.World.trace c.make_by-out-in-Ok-None.new.world) (g.D.World.trace c.tell_end.new.world) (c.in-Ok-None.is ∙ ap (λ w. Ok w) c.in-Ok-None.field-0-is)
    (subst (λ (t : List Deed). Begins c.args.request.now.outfile.now c.begin_image.result t (g.D.World.trace c.begin_image.new.world)) c.reader-reader.ensures.noted c.begin_image.ensures.begins)
    (λ fails. subst (λ (s : ℕ). 1 ≤ s) (sym (c.tell_end.ensures.status ∙ ap end_status c.told-end.ensures)) (told_fails c.make_by-out-in-Ok-None.result.0.end c.make_by-out-in-Ok-None.result.0.printed fails))
    c.make_by-out-in-Ok-None.ensures.lent c.tell_end.ensures.kept

pub returns-in-Ok-None-clause-told : goal.returns-in-Ok-None-clause-told
returns-in-Ok-None-clause-told g c = λ honest plain.
    let lists = c.make_by-out-in-Ok-None.ensures.told (g.D.World.known c.args.world.now honest) (subst IsTrue (sym c.reader-reader.ensures.map.honest) honest) tt plain in
    there _ _ c.args.request.now _ _ c.tell_end.result c.make_by-out-in-Ok-None.result.0.end c.reader-reader.ensures.identities c.reader-reader.ensures.map c.args.is_quiet _ _ lists.0 lists.1 _ _ lists.2 lists.3
    (end_or_failed c.make_by-out-in-Ok-None.result.0.end c.make_by-out-in-Ok-None.result.0.printed c.tell_end.result (c.tell_end.ensures.status ∙ ap end_status c.told-end.ensures))

pub returns-in-Ok-None-clause-flushed : goal.returns-in-Ok-None-clause-flushed
returns-in-Ok-None-clause-flushed g c = λ done.
    c.make_by-out-in-Ok-None.ensures.flushed (is_flushed c.make_by-out-in-Ok-None.result.0.end c.make_by-out-in-Ok-None.result.0.printed c.tell_end.result (c.tell_end.ensures.status ∙ ap end_status c.told-end.ensures) done)

pub returns-in-Ok-Some-clause-made : goal.returns-in-Ok-Some-clause-made
returns-in-Ok-Some-clause-made g c =
    made_beside c.args.request.now.outfile.now c.tell_made.result c.begin_image.result (c.in-Ok-Some.file, c.in-Ok-Some.path) _ _ _ (c.in-Ok-Some.is ∙ ap (λ w. Ok w) c.in-Ok-Some.field-0-is)
    (subst (λ (t : List Deed). Begins c.args.request.now.outfile.now c.begin_image.result t (g.D.World.trace c.begin_image.new.world)) c.reader-reader.ensures.noted c.begin_image.ensures.begins)
    (finishes_made c.in-Ok-Some.path c.tell_made.result c.make_by-out.result.0.end _ _ _ c.make_by-out.ensures.lent c.tell_made.ensures.named c.tell_made.ensures.done
    (made_is_done c.args.request.now c.make_by-out.result.0.end c.make_by-out.ensures.ends) c.tell_made.ensures.status)

pub returns-in-Ok-Some-clause-told : goal.returns-in-Ok-Some-clause-told
returns-in-Ok-Some-clause-told g c = λ honest plain.
    let knows = g.D.World.known c.args.world.now honest in
    let made = c.make_by-out in
    let lists = made.ensures.told knows (subst IsTrue (sym c.reader-reader.ensures.map.honest) honest)
    (begun_empty _ c.begin_image.result (c.in-Ok-Some.file, c.in-Ok-Some.path) (c.in-Ok-Some.is ∙ ap (λ w. Ok w) c.in-Ok-Some.field-0-is) (c.begin_image.ensures.empty knows)) plain in
    in_new _ _ c.args.request.now _ _ c.tell_made.result made.result.0.end c.reader-reader.ensures.identities c.reader-reader.ensures.map c.args.is_quiet _ _ lists.0 lists.1 _ _ lists.2 lists.3
    c.tell_made.ensures.status

pub returns-in-Ok-Some-clause-flushed : goal.returns-in-Ok-Some-clause-flushed
returns-in-Ok-Some-clause-flushed g c = λ done. c.make_by-out.ensures.flushed (c.tell_made.ensures.printed done)

pub returns-in-Err-clause-made : goal.returns-in-Err-clause-made
returns-in-Err-clause-made g c =
    subst (λ (t : List Deed). MakesFor c.args.request.now.outfile.now c.in-Err.status t (g.D.World.trace c.begin_image.new.world)) c.reader-reader.ensures.noted c.in-Err.ensures.begins

pub returns-in-Err-clause-told : goal.returns-in-Err-clause-told
returns-in-Err-clause-told g c = λ honest plain. inl c.in-Err.ensures.failed
