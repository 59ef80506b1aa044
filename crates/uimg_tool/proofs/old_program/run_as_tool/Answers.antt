use Rattle.std.proofs.Common.{refl}
use Rattle.uimg_tool.specs.{OldCommands.Kept}
use Rattle.uimg_tool.proofs.OldCommandLaws.{Does, answers, does_as, run_changes, runs}
use Rattle.uimg_tool.proofs.old_program.run_as_tool.Goals.{in-Run, in-Make, in-MakeFit, in-MakeAuto, in-Update, in-Show}
use Rattle.uimg_tool.proofs.old_program.run_as_tool.Goals as goal

pub returns-clause-answers : goal.returns-clause-answers
returns-clause-answers g c =
    let kept : Kept g.row.D-Shelf-Kept.Denot g.row.D-NewShelf-Kept.Denot = record { there = g.D.Shelf.Kept.Source.device; new = g.D.NewShelf.Kept.Source.device; identities = g.D.MakingWorld.identities c.args.world.now } in
    let files = g.D.World.map c.args.world.now in
    let before = g.D.World.trace c.args.world.now in
    let does : Does kept c.args.tool files g.W.Write.contents before c.in-Ok-new.out c.in-Ok.asked c.match-asked-3.status (g.D.World.trace c.match-asked-3.world) = elim c.match-asked-3.branch [
      | in-Run w ↦ does_as kept c.args.tool files g.W.Write.contents before c.in-Ok-new.out g.D.World.trace c.in-Ok.asked _ c.match-asked-3.status w.run_old.result c.match-asked-3.world w.run_old.new.world w.in-Run.is w.status-is w.world-is (record {
        does = run_changes _ _ _ w.run_old.ensures.kept;
        means = λ honest. runs _ _ _ files before _ _ _ (w.run_old.ensures.told honest) (w.run_old.ensures.extracted honest);
        flushed = w.run_old.ensures.flushed;
      })
      | in-Make w ↦ does_as kept c.args.tool files g.W.Write.contents before c.in-Ok-new.out g.D.World.trace c.in-Ok.asked _ c.match-asked-3.status w.make_old.result c.match-asked-3.world w.make_old.new.world w.in-Make.is w.status-is w.world-is (record {
        does = w.make_old.ensures.made;
        means = w.make_old.ensures.told;
        flushed = w.make_old.ensures.flushed;
      })
      | in-MakeFit w ↦ does_as kept c.args.tool files g.W.Write.contents before c.in-Ok-new.out g.D.World.trace c.in-Ok.asked _ c.match-asked-3.status (w.make_fit-status.result, w.make_fit-status.new.out) c.match-asked-3.world w.make_fit-status.new.world w.in-MakeFit.is w.status-is w.world-is (record {
        does = w.make_fit-status.ensures.made;
        means = w.make_fit-status.ensures.built;
        flushed = λ never. absurd never;
      })
      | in-MakeAuto w ↦ does_as kept c.args.tool files g.W.Write.contents before c.in-Ok-new.out g.D.World.trace c.in-Ok.asked _ c.match-asked-3.status (w.make_auto-status.result, w.make_auto-status.new.out) c.match-asked-3.world w.make_auto-status.new.world w.in-MakeAuto.is w.status-is w.world-is (record {
        does = w.make_auto-status.ensures.made;
        means = tt;
        flushed = λ never. absurd never;
      })
      | in-Update w ↦ does_as kept c.args.tool files g.W.Write.contents before c.in-Ok-new.out g.D.World.trace c.in-Ok.asked _ c.match-asked-3.status (w.update_image-status.result, w.update_image-status.new.out) c.match-asked-3.world w.update_image-status.new.world w.in-Update.is w.status-is w.world-is (record {
        does = w.update_image-status.ensures.made;
        means = w.update_image-status.ensures.kept;
        flushed = λ never. absurd never;
      })
      | in-Show w ↦ does_as kept c.args.tool files g.W.Write.contents before c.in-Ok-new.out g.D.World.trace c.in-Ok.asked _ c.match-asked-3.status w.show_text.result c.match-asked-3.world c.args.world.now w.in-Show.is w.status-is w.world-is (record {
        does = refl;
        means = w.show_text.ensures.means;
        flushed = w.show_text.ensures.flushed;
      })
    ] in
    answers kept c.args.tool files g.W.Write.contents before c.in-Ok-new.out c.args.line c.read_old_words.result c.in-Ok.asked c.args.out c.match-asked-3.status c.into_parts-out.result.0 (g.D.World.trace c.match-asked-3.world) c.in-Ok.is c.read_old_words.ensures c.in-Ok-new.ensures.inner c.in-Ok-new.ensures.empty c.into_parts-out.ensures.inner does
