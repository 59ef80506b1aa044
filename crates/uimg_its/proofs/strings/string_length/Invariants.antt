use Rattle.std.proofs.Common.{length, ◌-◌, ◌≡◌, ◌≤◌, drop}
use Rattle.uimg_its.specs.Strings.{string_end}
use Rattle.uimg_its.proofs.LexLaws.{shifted}
use Rattle.uimg_its.proofs.strings.string_length.Given as goal

-- what is found from i on is what is found
abbrev pub invariant-loop-i : goal.invariant-loop-i
invariant-loop-i l = (l.i ≤ length l.text) × (string_end 0 l.text ≡ shifted l.i (string_end 0 (drop l.i l.text)))

abbrev pub decreases-loop-i : goal.decreases-loop-i
decreases-loop-i l = length l.text - l.i
