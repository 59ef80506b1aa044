use Rattle.std.proofs.Common.{ℕ, List, [], ap, arith}
use Rattle.uimg_fit_base.proofs.SlotLaws.{padded_at, not_past}
use Rattle.uimg_fit_base.proofs.algo_sets.digest_at.Goals as goal

pub returns-then-i-lt8 : goal.returns-then-i-lt8
returns-then-i-lt8 c = λ algos message all algo is few.
    ap (λ (p : List ℕ × ℕ). p.0) (padded_at c.args.digests.now algos message c.args.i algo ([], 0) all is)

pub returns-else-i-lt8 : goal.returns-else-i-lt8
returns-else-i-lt8 c = λ algos message all algo is few.
    absurd (omega (arith, not_past algos c.args.i algo is few, c.if-i-lt8.false))
