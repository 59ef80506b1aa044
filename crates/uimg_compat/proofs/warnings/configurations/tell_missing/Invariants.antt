use Rattle.std.proofs.Common.{length, ◌+◌}
use Rattle.std.specs.Option.{option_map_or}
use Rattle.uimg_compat.proofs.warnings.configurations.tell_missing.Given as goal

abbrev pub decreases-loop-left : goal.decreases-loop-left
decreases-loop-left g l = option_map_or (λ it. length it.now + 1) l.left 0
