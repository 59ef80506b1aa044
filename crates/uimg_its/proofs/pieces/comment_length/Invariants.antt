use Rattle.std.proofs.Common.{length, ◌-◌, ◌≡◌, ◌≤◌, drop}
use Rattle.uimg_its.specs.Words.{comment}
use Rattle.uimg_its.proofs.LexLaws.{shifted}
use Rattle.uimg_its.proofs.pieces.comment_length.Given as goal

-- what is found from i on is what is found
abbrev pub invariant-loop-i : goal.invariant-loop-i
invariant-loop-i l = (l.i ≤ length l.text) × (comment l.text ≡ shifted l.i (comment (drop l.i l.text)))

abbrev pub decreases-loop-i : goal.decreases-loop-i
decreases-loop-i l = length l.text - l.i
