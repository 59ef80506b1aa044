use Rattle.std.proofs.Common.{◌≡◌, ◌≤◌, length}
use Rattle.uimg_its.specs.{Words.words, Reader.unlabelled}
use Rattle.uimg_its.proofs.items.named.Given as goal

abbrev pub invariant-loop-found : goal.invariant-loop-found
invariant-loop-found l = (unlabelled (words l.left) ≡ unlabelled (words l.text)) × (length l.left ≤ length l.text)

abbrev pub decreases-loop-found : goal.decreases-loop-found
decreases-loop-found l = length l.left
