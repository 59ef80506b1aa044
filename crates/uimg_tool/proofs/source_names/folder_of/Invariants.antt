use Rattle.std.proofs.Common.{◌≡◌, length}
use Rattle.uimg_tool.specs.SearchedNames.{folder_in}
use Rattle.uimg_tool.proofs.source_names.folder_of.Given as goal

-- what was left out has no slash
abbrev pub invariant-loop-last : goal.invariant-loop-last
invariant-loop-last l = folder_in l.folder ≡ folder_in l.fn.name

abbrev pub decreases-loop-last : goal.decreases-loop-last
decreases-loop-last l = length l.folder
