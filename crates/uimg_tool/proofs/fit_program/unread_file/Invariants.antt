use Rattle.std.proofs.Common.{◌≡◌}
use Rattle.uimg_compat.specs.Getopt.{left}
use Rattle.uimg_world.specs.Deeds.{changes}
use Rattle.uimg_tool.proofs.fit_program.unread_file.Given as goal

-- each path takes something of the words
abbrev pub decreases-loop-path : goal.decreases-loop-path
decreases-loop-path g l = left l.left.words

abbrev pub invariant-loop-path : goal.invariant-loop-path
invariant-loop-path g l = changes (g.D.World.trace l.world) ≡ changes (g.D.World.trace l.fn.world)
