use Rattle.std.proofs.Common.{◌∙◌, ap, subst}
use Rattle.uimg_tool.specs.{OldMakings.IsNew, Statuses.end_status}
use Rattle.uimg_tool.proofs.OldAnswerLaws.{failed_in, new_in, there_in}
use Rattle.uimg_tool.proofs.making.make_command.Goals.{in-Some+in-Ok, in-Some+in-Err, in-None}
use Rattle.uimg_tool.proofs.making.make_command.Goals as goal

pub returns-clause-told : goal.returns-clause-told
returns-clause-told g c = λ knows honest is_new plain. elim c.match-begun.branch [
  | in-Some+in-Ok w ↦
      new_in c.args.begun _ _ _ c.args.request.now _ c.match-begun.made c.end_written.result _ _ w.in-Some.field-0 w.make_among.result _ w.in-Some.is w.made-is w.out-is c.end_written.ensures.status c.end_written.ensures.kept
      (w.make_among.ensures.told honest (w.shelf_in.ensures.honest knows)
      (ap g.D.NewShelf.Write.contents w.new-shelf.ensures ∙ w.in-Ok.ensures.empty knows
      (subst (IsNew g.D.File.Write.contents) w.in-Some.is is_new)) plain)
  | in-Some+in-Err w ↦ failed_in c.args.begun _ _ _ c.args.request.now _ c.end_written.result _ _ (c.end_written.ensures.status ∙ ap end_status w.made-is)
  | in-None w ↦
      there_in c.args.begun _ _ _ c.args.request.now _ c.match-begun.made c.end_written.result _ _ w.make_among-made.result _ w.in-None.is w.made-is w.out-is c.end_written.ensures.status c.end_written.ensures.kept
      (w.make_among-made.ensures.told honest (w.shelf_at.ensures.honest knows)
      (ap g.D.Shelf.Write.contents w.new-shelf-in-None.ensures ∙ w.shelf_at.ensures.empty knows) plain)
]
