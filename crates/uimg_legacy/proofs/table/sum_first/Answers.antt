use Rattle.std.proofs.Common.{◌∙◌, refl, arith}
use Rattle.uimg_legacy.proofs.SourceLaws.{honest_still, same_still}
use Rattle.uimg_legacy.proofs.ChunkLaws.{sum_none, sum_more_words}
use Rattle.uimg_legacy.proofs.table.sum_first.Goals as goal

pub loop-done-init : goal.loop-done-init
loop-done-init g c = record {
  within = omega arith;
  same = record { bytes = refl; honest = refl };
  room = refl;
  asked = omega arith;
  failures = refl;
  bound = omega arith;
  sum = λ honest. sum_none (g.S.Source.device c.args.source.now).bytes;
}

pub loop-done-preserved : goal.loop-done-preserved
loop-done-preserved g c =
    let same = c.loop-done.invariant.same in
    record {
      within = omega arith;
      same = same_still same c.sum_window.ensures.uses.same;
      room = c.sum_window.ensures.room ∙ c.loop-done.invariant.room;
      asked = omega arith;
      failures = omega (arith, c.in_ok-sum.ensures.uses.failures);
      bound = omega (arith, c.in_ok-sum.ensures.bound);
      sum = λ honest.
          let more = rw same.bytes at c.in_ok-sum.ensures.value (honest_still same honest) in
          omega (arith, more, c.loop-done.invariant.sum honest, sum_more_words (g.S.Source.device c.args.source.now).bytes c.loop-done.done c.min-next.result);
    }
