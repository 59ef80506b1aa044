use Rattle.std.proofs.Common.{◌<◌, ◌≢◌, ◌∙◌, ◌++◌, length, None, arith, get_or-set_other}
use Rattle.std.{proofs.Math.{ListN.length-set, Seq.map-set_same}, specs.Option.option_map}
use Rattle.std.proofs.lemmas.List.Elements.{AllWithin-more_set}
use Rattle.uimg_sums.specs.{AnySum.algo_of, Bundle.SlotHolds}
use Rattle.uimg_sums.proofs.bundle.Bundle.feed.Goals as goal

pub loop-slot-preserved : goal.loop-slot-preserved
loop-slot-preserved c =
    let slots = c.loop-slot.slot-items in
    let index = c.loop-slot.slot-index in
    let new = c.feed_slot.new.slot in
    let within : index < length slots = omega arith in record {
      long = length-set slots index new ∙ c.loop-slot.invariant.long;
      order = map-set_same (option_map algo_of) slots index new None c.feed_slot.ensures.algo ∙ c.loop-slot.invariant.order;
      fed = λ fed held. AllWithin-more_set slots index new within (SlotHolds (fed ++ c.args.bytes.now)) (c.loop-slot.invariant.fed fed held)
          (c.feed_slot.ensures.fed fed (c.loop-slot.invariant.rest fed held index None (omega arith) c.loop-slot-test.true));
      rest = λ fed held k d above below. let other : k ≢ index = omega arith in rw get_or-set_other (c.loop-slot.invariant.rest fed held k d (omega arith) below);
    }
