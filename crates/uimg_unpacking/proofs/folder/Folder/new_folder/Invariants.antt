use Rattle.std.proofs.Common.{Bool}
use Rattle.uimg_unpacking.specs.Places.{Obeys, terms_of}
use Rattle.uimg_unpacking.proofs.folder.Folder.new_folder.Given as goal

-- the calls so far changed only what may be changed
abbrev pub invariant-loop-number : goal.invariant-loop-number
invariant-loop-number g l = (is_naming : Bool) → Obeys (terms_of l.self) is_naming (g.W.World.trace l.fn.world) (g.W.World.trace l.world)
