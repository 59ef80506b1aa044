use Rattle.std.proofs.Common.{◌≡◌}
use Rattle.uimg_tool.specs.Writings.{tried}
use Rattle.uimg_tool.proofs.writing.new_beside.Given as goal

-- the first names were tried
abbrev pub invariant-loop-number : goal.invariant-loop-number
invariant-loop-number g l = g.W.World.trace l.world ≡ tried l.path l.number (g.W.World.trace l.fn.world)
