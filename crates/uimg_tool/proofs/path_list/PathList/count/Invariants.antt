use Rattle.std.proofs.Common.{◌≡◌}
use Rattle.uimg_tool.proofs.path_list.PathList.count.Given as goal

-- only the count changes
abbrev pub invariant-loop-byte : goal.invariant-loop-byte
invariant-loop-byte g l = l.self.file ≡ l.fn.self.file
