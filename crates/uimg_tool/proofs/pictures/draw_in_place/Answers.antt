use Rattle.std.proofs.Common.{inl, rules}
use Rattle.uimg_world.specs.Deeds.{answer_of}
use Rattle.uimg_tool.proofs.pictures.draw_in_place.Goals as goal

pub returns-in-Err-clause-asks : goal.returns-in-Err-clause-asks
returns-in-Err-clause-asks g c = (answer_of c.create.result, inl (search rules))
