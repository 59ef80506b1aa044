use Rattle.std.proofs.Common.{◌≡◌, ◌+◌, ◌-◌, min, length, IsTrue, subst, sym, arith, ℕ, List, Bool, ◌∙◌, rules}
use Rattle.uimg_texts.specs.Slices.{slice}
use Rattle.uimg_base.specs.{Ranges.TakesRange, Sink.AppendsPrefix}
use Rattle.uimg_base.proofs.Slices.{AppendsFirst-more}
use Rattle.uimg_base.proofs.RangeLaws.{nothing_taken, more_taken, taken_right}
use Rattle.uimg_base.proofs.ranges.take_through.Goals as goal

pub loop-done-init : goal.loop-done-init
loop-done-init g c = record {
  bound = search rules;
  same = search rules;
  asked = search rules;
  failures = search rules;
  faults = search rules;
  taken = nothing_taken g.M.Sums.fed g.M.Sums.fed_nothing _ c.args.at _ _;
}

pub loop-done-preserved : goal.loop-done-preserved
loop-done-preserved g c =
    let same = c.loop-done.invariant.same in
    record {
      bound = omega (arith, c.in_ok-done.ensures.count);
      same = record { bytes = c.take_some.ensures.uses.same.bytes ∙ same.bytes; honest = c.take_some.ensures.uses.same.honest ∙ same.honest };
      asked = omega (arith, c.in_ok-done.ensures.asked, c.loop-done.invariant.asked);
      failures = omega (arith, c.in_ok-done.ensures.uses.failures, c.loop-done.invariant.failures);
      faults = omega (arith, c.in_ok-done.ensures.faults, c.loop-done.invariant.faults);
      taken = more_taken g.M.Sums.fed g.M.Sums.fed_more _ _ c.args.at c.loop-done.done _ _ _ _ _ _ _ same c.loop-done.invariant.taken c.in_ok-done.ensures.taken;
    }

pub returns-in_err-done-clause-copied : goal.returns-in_err-done-clause-copied
returns-in_err-done-clause-copied g c = λ honest.
    let same = c.loop-done.invariant.same in
    let now = subst (λ (b : Bool). IsTrue b) (sym same.honest) honest in
    let next : AppendsPrefix c.loop-done.out c.take_some.new.out (slice (g.S.Source.device c.args.source.now).bytes (c.args.at + c.loop-done.done) (min (c.args.len - c.loop-done.done) (length c.loop-done.window))) = subst (λ (xs : List ℕ). AppendsPrefix c.loop-done.out c.take_some.new.out (slice xs (c.args.at + c.loop-done.done) (min (c.args.len - c.loop-done.done) (length c.loop-done.window)))) same.bytes (c.in_err-done.ensures.prefix now) in
    let before = taken_right c.loop-done.invariant.taken honest in
    let whole : length c.loop-done.window ≡ 8192 = search rules in
    record {
      prefix = record {
        count = c.loop-done.done + next.count;
        first = AppendsFirst-more c.args.out.now c.loop-done.out c.take_some.new.out _ c.args.at c.loop-done.done _ c.args.len next.count (omega arith) (omega arith) before next.first;
        ahead = omega (arith, whole, c.in_err-done.ensures.ahead, c.loop-done.invariant.asked);
      };
      all = search rules;
    }

pub returns-clause-taken : goal.returns-clause-taken
returns-clause-taken g c = subst (λ (n : ℕ). TakesRange g.M.Sums.fed (g.S.Source.device c.args.source.now) c.args.at n c.args.sums.now c.loop-done.sums c.args.out.now c.loop-done.out) (omega (arith, c.loop-done.invariant.bound)) c.loop-done.invariant.taken
