use Rattle.std.proofs.Common.{true}
use Rattle.uimg_unpacking.specs.Places.{Obeys, terms_of}
use Rattle.uimg_unpacking.specs.Staged.{LeavesOthers, names_of}
use Rattle.uimg_unpacking.proofs.naming.remove_all_old.Given as goal

-- only files of the folder were changed, and none of other names
abbrev pub invariant-loop-its : goal.invariant-loop-its
invariant-loop-its g l = record {
  within : Obeys (terms_of l.folder) true (g.W.World.trace l.fn.world) (g.W.World.trace l.world);
  leaves : LeavesOthers l.folder.path.now (names_of l.files) (g.W.World.trace l.fn.world) (g.W.World.trace l.world);
}
