use Rattle.std.proofs.Common.{rules, ◌≡◌, ◌+◌, length, take, ◌∙◌, arith, subst, ℕ}
use Rattle.uimg_base.specs.Ranges.{SumsRange}
use Rattle.uimg_base.proofs.RangeLaws.{nothing_summed, more_summed}
use Rattle.uimg_base.proofs.ranges.feed_through.Goals as goal

pub loop-done-init : goal.loop-done-init
loop-done-init g c = record {
  bound = search rules;
  same = search rules;
  asked = search rules;
  failures = search rules;
  fed = nothing_summed g.M.Sums.fed g.M.Sums.fed_nothing _ c.args.at _;
}

pub loop-done-preserved : goal.loop-done-preserved
loop-done-preserved g c =
    let same = c.loop-done.invariant.same in
    let size : length (take c.min-next.result c.loop-done.window) ≡ c.min-next.result = search rules in
    let Fed : ℕ → Type 0 = λ n. SumsRange g.M.Sums.fed (g.S.Source.device c.loop-done.source) (c.args.at + c.loop-done.done) n c.loop-done.sums c.feed_at.new.sums in
    record {
      bound = omega arith;
      same = record { bytes = c.feed_at.ensures.uses.same.bytes ∙ same.bytes; honest = c.feed_at.ensures.uses.same.honest ∙ same.honest };
      asked = omega arith;
      failures = omega (arith, c.in_ok-feed_at.ensures.uses.failures);
      fed = more_summed g.M.Sums.fed g.M.Sums.fed_more _ _ c.args.at c.loop-done.done c.min-next.result _ _ _ same c.loop-done.invariant.fed (subst Fed size c.in_ok-feed_at.ensures.fed);
    }

pub returns-clause-fed : goal.returns-clause-fed
returns-clause-fed g c = subst (λ (n : ℕ). SumsRange g.M.Sums.fed (g.S.Source.device c.args.source.now) c.args.at n c.args.sums.now c.loop-done.sums) (omega (arith, c.loop-done.invariant.bound)) c.loop-done.invariant.fed
