use Rattle.std.proofs.Common.{◌≡◌, ◌∙◌, Ok, ℕ, List, Option, Result, ap, inr, subst}
use Rattle.std.specs.Io.Buffered.{writer_contents}
use Rattle.uimg_cli.specs.{Reading.ReadsWords, declared.command_line.Asked.Asked}
use Rattle.uimg_cli.specs.declared.command_line.words_fault.WordsFault.{WordsFault}
use Rattle.uimg_tool.specs.{Answering.Comes, Commands.Means, FaultTexts.told_of_complaint, Programs.{epoch_of, words_of}, Statuses.closing_status}
use Rattle.uimg_tool.proofs.{AnswerLaws.{closed, guarded}, BufferLaws.unbuffered}
use Rattle.uimg_tool.proofs.main_program.run_as_uimg.Goals as goal

pub returns-clause-answers : goal.returns-clause-answers
returns-clause-answers g c =
    let files = g.D.World.map c.args.world.now in
    let before = g.D.World.trace c.args.world.now in
    let after = g.D.World.trace c.run-end.new.world in
    let first = g.W.Write.contents c.args.out in
    let printed = writer_contents g.W.Write.contents c.run-end.result.1 in
    let begins : writer_contents g.W.Write.contents c.in-Ok-new.out ≡ first = unbuffered _ _ c.in-Ok-new.ensures.empty ∙ ap g.W.Write.contents c.in-Ok-new.ensures.inner in
    record {
      asked = Ok c.in-Ok.asked;
      reads = subst (λ (r : Result Asked WordsFault). ReadsWords (epoch_of c.args.line) c.args.line.time (words_of c.args.line) r) c.in-Ok.is c.read_line.ensures;
      answers = record {
        means = λ honest.
            closed g.D.Shelf.Kept.Source.device (g.D.MakingWorld.identities c.args.world.now) g.V.Write.contents c.in-Ok.asked files before after c.run-end.result.0 c.close-status.result.0 first printed (g.W.Write.contents c.close-status.result.1)
            c.args.complaints.now c.close-status.new.complaints
            (subst (λ (x : Option (List ℕ)). Comes (Means g.D.Shelf.Kept.Source.device (g.D.MakingWorld.identities c.args.world.now) c.in-Ok.asked files before after) (closing_status c.run-end.result.0) (told_of_complaint c.run-end.result.0) x printed) begins
            (c.run-end.ensures.means honest))
            c.close-status.ensures.closed;
        changes = inr c.run-end.ensures.changes;
        guards = guarded c.in-Ok.asked files (closing_status c.run-end.result.0) c.close-status.result.0 before after c.run-end.ensures.guards c.close-status.ensures.closed;
      };
    }
