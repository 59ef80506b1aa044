use Rattle.std.proofs.Common.{◌∙◌, refl, sym}
use Rattle.uimg_world.specs.Deeds.{answer_of}
use Rattle.uimg_tool.proofs.OldMakingLaws.{ends_named}
use Rattle.uimg_tool.proofs.old_files.tell_written.Goals as goal

pub returns-in-Err-clause-named : goal.returns-in-Err-clause-named
returns-in-Err-clause-named g c =
    ends_named c.args.path.now c.args.end.now (answer_of c.finish-2.result) (g.D.World.trace c.args.world.now) (g.D.World.trace c.finish-2.new.world) (g.D.World.trace c.finish-2.new.world) (sym c.is_err.ensures.value ∙ c.if-is_err.false) c.finish-2.ensures refl
