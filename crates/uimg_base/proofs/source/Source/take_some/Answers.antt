use Rattle.std.proofs.Common.{rules, ◌≡◌, ℕ, length, take, subst}
use Rattle.uimg_base.specs.Ranges.{TakesRange}
use Rattle.uimg_base.proofs.source.Source.take_some.Goals as goal

pub returns-clause-taken : goal.returns-clause-taken
returns-clause-taken g c =
    let size : length (take c.min-next.result c.args.window.now) ≡ c.min-next.result = search rules in
    subst (λ (n : ℕ). TakesRange g.M.Sums.fed (g.Self.Source.device c.args.self.now) c.args.at n c.args.sums.now c.take_at.new.sums c.args.out.now c.take_at.new.out) size c.in_ok-take_at.ensures.taken
