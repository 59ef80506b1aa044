use Rattle.std.proofs.Common.{ℕ, List, map, subst, vec_items}
use Rattle.uimg_tool.specs.FolderPaths.{ArePathsIn}
use Rattle.uimg_tool.proofs.BelowLaws.{if_ok, listed_paths}
use Rattle.uimg_tool.proofs.checks.Checks.list_folder.Goals as goal

pub returns-in-Ok-clause-told : goal.returns-in-Ok-clause-told
returns-in-Ok-clause-told g c =
    if_ok c.paths_within.result (λ paths are. listed_paths (g.D.World.map c.args.world.now) c.args.asked.now c.args.path.now c.in-Ok.names.items (map vec_items paths.items) c.args.self.now _ _ _ c.in-Ok.ensures.noted (subst (λ (names : List ℕ). ArePathsIn c.args.path.now names (map vec_items paths.items)) c.as_slice.ensures.value are)) c.paths_within.ensures.paths
