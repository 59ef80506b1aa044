use Rattle.std.proofs.Common.{◌≡◌, ◌≤◌, length}
use Rattle.uimg_its.specs.{Words.words, Steps.with_front, Reader.list_items}
use Rattle.uimg_its.proofs.lists.read_list.Given as goal

abbrev pub invariant-loop-last : goal.invariant-loop-last
invariant-loop-last g l = (with_front l.out.items (list_items l.list (words l.rest)) ≡ with_front l.fn.out.items (list_items l.list (words l.text))) × (length l.rest ≤ length l.text)

abbrev pub decreases-loop-last : goal.decreases-loop-last
decreases-loop-last g l = length l.rest
