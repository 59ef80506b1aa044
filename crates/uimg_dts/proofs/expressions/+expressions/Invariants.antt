use Rattle.std.proofs.Common.{◌*◌, ◌+◌, ◌-◌}
use Rattle.uimg_dts.proofs.expressions.+expressions.Given as goal

abbrev pub decreases-enclosed : goal.decreases-enclosed
decreases-enclosed l = l.levels * 20

abbrev pub decreases-primary : goal.decreases-primary
decreases-primary l = l.levels * 20 + 1

abbrev pub decreases-unary : goal.decreases-unary
decreases-unary l = l.levels * 20 + 2

abbrev pub decreases-sum : goal.decreases-sum
decreases-sum l = l.levels * 20 + 3 + (11 - l.least)

abbrev pub decreases-choice : goal.decreases-choice
decreases-choice l = l.levels * 20 + 14
