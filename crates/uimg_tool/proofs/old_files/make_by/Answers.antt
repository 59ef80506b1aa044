use Rattle.std.proofs.Common.{List, ℕ, Option, ap, subst, sym, ◌∙◌, true≢false}
use Rattle.uimg_tool.proofs.OldAnswerLaws.{when_ok}
use Rattle.std.specs.Io.{Buffered.writer_contents, KnownBytes.Keeps}
use Rattle.uimg_base.specs.Sink.{Sink}
use Rattle.uimg_tool.proofs.old_files.make_by.Goals as goal

pub returns-then-is_quiet-clause-told : goal.returns-then-is_quiet-clause-told
returns-then-is_quiet-clause-told g c = λ knows honest is_new plain.
    (c.new-sink.result, c.make_command-end.new.out, c.make_command-end.ensures.told knows honest is_new plain, λ loud. absurd (true≢false (sym c.if-is_quiet.true ∙ loud)))

pub returns-clause-told : goal.returns-clause-told
returns-clause-told g c = λ knows honest is_new plain. (
  c.new-listing.result,
  c.make_command-end-2.new.out,
  c.make_command-end-2.ensures.told knows honest is_new plain,
  λ loud. (
    ap (λ (s : Sink). s.contents) c.new-listing.ensures,
    subst (λ (known : Option (List ℕ)). Keeps known (writer_contents g.W.Write.contents c.flush-printed.new.self)) c.into_inner-out.ensures c.flush-printed.ensures.bytes,
  ),
)

pub returns-clause-flushed : goal.returns-clause-flushed
returns-clause-flushed g c = λ ok empty. when_ok c.flush-printed.result ok c.flush-printed.ensures.ok
