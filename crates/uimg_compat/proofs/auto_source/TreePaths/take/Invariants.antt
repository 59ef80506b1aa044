use Rattle.std.proofs.Common.{◌≤◌, ◌≡◌}
use Rattle.uimg_compat.specs.{AutoSource.paths_left, Getopt.left}
use Rattle.uimg_compat.proofs.auto_source.TreePaths.take.Given as goal

-- nothing is put back, and what is left has the same paths
abbrev pub invariant-loop-given : goal.invariant-loop-given
invariant-loop-given l = (left l.self.words ≤ left l.initial.self.words) × (paths_left l.initial.self ≡ paths_left l.self)

-- each option and each operand takes something of the words
abbrev pub decreases-loop-given : goal.decreases-loop-given
decreases-loop-given l = left l.self.words
