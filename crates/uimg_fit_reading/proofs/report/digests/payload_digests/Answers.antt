use Rattle.std.proofs.Common.{◌∙◌, [], sym, ap}
use Rattle.uimg_texts.specs.Slices.{slice}
use Rattle.uimg_base.proofs.RangeLaws.{summed_right}
use Rattle.uimg_fit_base.specs.AlgoSets.{is_empty}
use Rattle.uimg_fit_reading.proofs.CompareLaws.{empty_digests}
use Rattle.uimg_fit_reading.proofs.report.digests.payload_digests.Goals as goal

pub returns-then-is_empty-clause-digests : goal.returns-then-is_empty-clause-digests
returns-then-is_empty-clause-digests g c = λ honest.
    empty_digests c.of.result (slice (g.S.Source.device c.args.source.now).bytes c.args.span.place c.args.span.length)
    (ap is_empty c.of.ensures.set ∙ sym c.is_empty.ensures ∙ c.if-is_empty.true) (c.of.ensures.digests [] c.sums-sums.ensures)

pub returns-clause-digests : goal.returns-clause-digests
returns-clause-digests g c = λ honest.
    c.of-2.ensures.digests _ (summed_right c.in_ok-feed_through.ensures.fed honest _ [] c.sums-sums.ensures)
