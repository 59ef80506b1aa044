use Rattle.std.proofs.Common.{false}
use Rattle.uimg_unpacking.specs.Places.{ChangesWithin}
use Rattle.uimg_unpacking.proofs.folder.Folder.clean_in.Given as goal

-- the calls so far changed only temporary folders
abbrev pub invariant-loop-number : goal.invariant-loop-number
invariant-loop-number g l = ChangesWithin l.self.path.now false (g.W.World.trace l.fn.world) (g.W.World.trace l.world)
