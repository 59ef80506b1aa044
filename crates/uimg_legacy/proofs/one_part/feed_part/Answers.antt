use Rattle.std.proofs.Common.{rules}
use Rattle.uimg_base.proofs.RangeLaws.{summed_right}
use Rattle.uimg_legacy.proofs.{SourceLaws.honest_still, DevicesLaws.bytes_at}
use Rattle.uimg_legacy.proofs.PartStepsLaws.{whole, feeds_after}
use Rattle.uimg_legacy.proofs.one_part.feed_part.Goals as goal

pub returns-in_err-size-clause-feeds : goal.returns-in_err-size-clause-feeds
returns-in_err-size-clause-feeds g c =
    feeds_after _ g.S.Source.device g.M.Summer.holds c.args.parts.now c.args.i c.index-parts-i.result c.size.new.self c.args.sum.now c.args.sum.now c.requires (search rules) (search rules)

pub returns-in_err-feed_through-clause-feeds : goal.returns-in_err-feed_through-clause-feeds
returns-in_err-feed_through-clause-feeds g c =
    feeds_after _ g.S.Source.device g.M.Summer.holds c.args.parts.now c.args.i c.index-parts-i.result c.feed_through.new.source c.args.sum.now c.feed_through.new.sums c.requires (search rules) (search rules)

pub returns-clause-feeds : goal.returns-clause-feeds
returns-clause-feeds g c =
    feeds_after _ g.S.Source.device g.M.Summer.holds c.args.parts.now c.args.i c.index-parts-i.result c.feed_through.new.source c.args.sum.now c.feed_through.new.sums c.requires (search rules)
    (λ honest. rw (whole _ _ _ c.size.ensures.same.bytes c.in_ok-size.ensures.length) at (summed_right c.in_ok-feed_through.ensures.fed (honest_still c.size.ensures.same honest)))

pub returns-clause-size : goal.returns-clause-size
returns-clause-size g c = rw (bytes_at g.S.Source.device c.args.parts.now c.args.i c.index-parts-i.result c.requires) c.in_ok-size.ensures.length
