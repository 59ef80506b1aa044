use Rattle.std.proofs.Common.{rules, arith}
use Rattle.uimg_map.proofs.ReservationsLaws.{passed_by}
use Rattle.uimg_map.proofs.reservations.end_of_reservations.Goals as goal

pub loop-at-preserved : goal.loop-at-preserved
loop-at-preserved g c =
    let device = g.S.Source.device in
    record {
      same = search rules;
      failures = search rules;
      within = omega arith;
      asked = omega arith;
      size = c.loop-at.invariant.size;
      passed = passed_by (device c.args.source.now) (device c.loop-at.source) c.args.place c.loop-at.at c.in_ok-is_last.field-0 c.loop-at.invariant.same c.in_ok-is_last.ensures.last c.if-branch.false c.loop-at.invariant.passed;
    }
