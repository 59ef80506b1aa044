use Rattle.uimg_tool.proofs.FolderPathLaws.{are_sorted}
use Rattle.uimg_tool.proofs.checks.folder_paths.sorted_paths.Goals as goal

pub returns : goal.returns
returns c =
    are_sorted c.args.folder.now c.args.names.now c.in_ok-paths.paths.items c.sort_unstable.new.self.items c.in_ok-paths.ensures c.sort_unstable.ensures.permutation c.sort_unstable.ensures.sorted
