use Rattle.uimg_unpacking.specs.Places.{terms_of}
use Rattle.uimg_unpacking.proofs.unpacking.unpack.Given as goal

-- the reference to the world, the calls that were made before, how files are written, and how many
abbrev pub ghosts-unpack_in : goal.ghosts-unpack_in
ghosts-unpack_in g a = record { name = a.world.ghost_name; before = g.W.World.trace a.world.now; terms = terms_of a.asked.now.folder; limits = a.asked.now.limits }
