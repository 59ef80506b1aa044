use Rattle.std.proofs.Common.{Bool, true, ◌&&◌, List, drop}
use Rattle.uimg_world.specs.Deeds.{Deed}
use Rattle.uimg_unpacking.specs.Naming.{PutsBackFiles}
use Rattle.uimg_unpacking.specs.Places.{Obeys, terms_of}
use Rattle.uimg_unpacking.proofs.NamingLaws.{LeftBack}
use Rattle.uimg_unpacking.proofs.naming.put_back_all.Given as goal

-- only files of the folder and temporary ones were changed; what is left to put back completes all
abbrev pub invariant-loop-before : goal.invariant-loop-before
invariant-loop-before g l = record {
  within : Obeys (terms_of l.folder) true (g.W.World.trace l.fn.world) (g.W.World.trace l.world);
  left : (back : Bool) (t : List Deed) → LeftBack (drop l.before l.files) l.before l.number back (g.W.World.trace l.world) t
      → PutsBackFiles l.files l.number (l.is_back && back) (g.W.World.trace l.fn.world) t;
}
