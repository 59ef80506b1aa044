use Rattle.std.proofs.Common.{refl, rules}
use Rattle.uimg_world.specs.Deeds.{answer_of}
use Rattle.uimg_tool.proofs.old_files.tell_made.Goals as goal

pub returns-in-Err-Stopped-Put-Err-clause-named : goal.returns-in-Err-Stopped-Put-Err-clause-named
returns-in-Err-Stopped-Put-Err-clause-named g c = (answer_of c.finish.result, g.D.World.trace c.finish.new.world, (search rules), refl)
