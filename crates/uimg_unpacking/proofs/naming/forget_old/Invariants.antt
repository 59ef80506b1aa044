use Rattle.std.proofs.Common.{false}
use Rattle.uimg_unpacking.specs.Places.{Obeys, terms_of}
use Rattle.uimg_unpacking.proofs.naming.forget_old.Given as goal

-- only temporary files were changed
abbrev pub invariant-loop-its : goal.invariant-loop-its
invariant-loop-its g l = Obeys (terms_of l.folder) false (g.W.World.trace l.fn.world) (g.W.World.trace l.world)
