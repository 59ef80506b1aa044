use Rattle.std.proofs.Common.{◌≡◌, ◌+◌, ℕ, Bool, true, List, drop}
use Rattle.uimg_world.specs.Deeds.{Deed}
use Rattle.uimg_unpacking.specs.Naming.{NamesFiles}
use Rattle.uimg_unpacking.specs.Places.{Obeys, terms_of}
use Rattle.uimg_unpacking.proofs.naming.name_files.Given as goal

-- as many files have their names as were met; the names of the others complete those of all
abbrev pub invariant-loop-its : goal.invariant-loop-its
invariant-loop-its g l = record {
  named : l.named ≡ l.its-index;
  within : Obeys (terms_of l.folder) true (g.W.World.trace l.fn.world) (g.W.World.trace l.world);
  left : (more : ℕ) (are_all : Bool) (t : List Deed) → NamesFiles (drop l.its-index l.files) more are_all (g.W.World.trace l.world) t
      → NamesFiles l.files (more + l.named) are_all (g.W.World.trace l.fn.world) t;
}
