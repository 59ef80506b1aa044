use Rattle.std.{proofs.Common.{◌≡◌, ◌≤◌, ◌*◌, ◌^◌, take}, specs.Prelude.sum_by}
use Rattle.uimg_texts.specs.Numbers.{up4}
use Rattle.uimg_legacy.specs.Words.{whole_words}
use Rattle.uimg_legacy.proofs.table.rounded_sum.Given as goal

-- the sum of the first i words
abbrev pub invariant-loop-i : goal.invariant-loop-i
invariant-loop-i l = (l.sum ≤ 2 ^ 32 * l.i) × (l.sum ≡ sum_by up4 (take l.i (whole_words l.bytes)))
