use Rattle.std.proofs.Common.{rules}
use Rattle.uimg_tool.proofs.{BelowLaws.found_given, CheckLaws.on_ok}
use Rattle.uimg_tool.proofs.checks.Checks.check_given.Goals as goal
use Rattle.uimg_world.specs.declared.kind.Kind.TheVariants as kind

pub returns-in-Folder-clause-told : goal.returns-in-Folder-clause-told
returns-in-Folder-clause-told g c =
    on_ok c.check_folder.result (found_given (g.D.World.map c.args.world.now) _ c.args.asked.now c.as_bytes-in-Folder.result.now c.args.path.now c.kind_at.result kind.Folder c.args.self.now _ _ _ _ (search rules) (search rules) c.kind_at.ensures.same c.as_bytes-in-Folder.ensures.value c.in-Folder.is c.kind_at.ensures.noted) c.check_folder.ensures.told
