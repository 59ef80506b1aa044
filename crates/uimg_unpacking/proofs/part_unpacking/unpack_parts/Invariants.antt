use Rattle.uimg_unpacking.specs.Places.{terms_of}
use Rattle.uimg_unpacking.proofs.part_unpacking.unpack_parts.Given as goal

-- the reference to the world, the calls that were made before, and how files are written
abbrev pub ghosts-unpack_parts_in : goal.ghosts-unpack_parts_in
ghosts-unpack_parts_in g a = record { name = a.world.ghost_name; before = g.W.World.trace a.world.now; terms = terms_of a.asked.now.folder; limits = a.asked.now.limits }
