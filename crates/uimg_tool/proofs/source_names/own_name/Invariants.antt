use Rattle.std.proofs.Common.{◌≡◌, length}
use Rattle.uimg_tool.specs.SearchedNames.{or_own, own_in}
use Rattle.uimg_tool.proofs.source_names.own_name.Given as goal

-- what follows is looked for the last mark
abbrev pub invariant-loop-next : goal.invariant-loop-next
invariant-loop-next l = or_own (own_in l.rest) l.own ≡ or_own (own_in l.fn.name) l.fn.name

abbrev pub decreases-loop-next : goal.decreases-loop-next
decreases-loop-next l = length l.rest
