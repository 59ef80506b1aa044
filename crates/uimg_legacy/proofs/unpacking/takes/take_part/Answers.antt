use Rattle.std.proofs.Common.{◌∙◌, ◌++◌, List, true, ap}
use Rattle.uimg_base.specs.Sink.{Sink}
use Rattle.uimg_legacy.specs.Unpacking.{Part, part_if}
use Rattle.uimg_legacy.proofs.TakingLaws.{filled_by}
use Rattle.uimg_legacy.proofs.unpacking.takes.take_part.Goals as goal

pub returns-clause-taken : goal.returns-clause-taken
returns-clause-taken g c =
    let taken = c.in_ok-take_through.ensures.taken in
    let piece = taken.sums.piece in
    record {
      sums = taken.sums;
      held = λ honest.
          let holds = c.into_inner.ensures ∙ filled_by _ _ piece (ap (λ (s : Sink). s.contents) c.new-out.ensures ∙ c.in_ok-shelf.ensures.empty honest) taken.wrote.appended in
          c.in_ok-hold.ensures.held honest piece holds ∙ ap (λ (l : List Part). l ++ part_if true c.args.part.number piece) (c.in_ok-shelf.ensures.held honest);
    }
