use Rattle.std.proofs.Common.{◌≡◌, ◌++◌, length}
use Rattle.std.specs.List.{flat_map}
use Rattle.uimg_fit_reading.specs.Values.{pieces}
use Rattle.uimg_info.specs.ValueTexts.{quoted_next}
use Rattle.uimg_info.proofs.value_texts.push_others.Given as goal

-- with the texts that are left, all are there
abbrev pub invariant-loop-rest : goal.invariant-loop-rest
invariant-loop-rest l = l.to.items ++ flat_map quoted_next (pieces l.rest) ≡ l.fn.to.items ++ flat_map quoted_next (pieces l.bytes)

abbrev pub decreases-loop-rest : goal.decreases-loop-rest
decreases-loop-rest l = length l.rest
