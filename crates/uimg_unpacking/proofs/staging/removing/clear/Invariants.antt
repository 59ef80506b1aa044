use Rattle.std.proofs.Common.{Bool}
use Rattle.uimg_unpacking.specs.Places.{Obeys, terms_of}
use Rattle.uimg_unpacking.proofs.staging.removing.clear.Given as goal

-- only temporary files were changed
abbrev pub invariant-loop-path : goal.invariant-loop-path
invariant-loop-path g l = (is_naming : Bool) → Obeys (terms_of l.folder) is_naming (g.W.World.trace l.fn.world) (g.W.World.trace l.world)
