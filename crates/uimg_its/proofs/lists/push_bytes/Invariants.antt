use Rattle.std.proofs.Common.{◌≡◌, ◌-◌, ◌≤◌, length, drop}
use Rattle.uimg_its.specs.{Steps.without_rest, Cells.hex_bytes}
use Rattle.uimg_its.proofs.lists.push_bytes.Given as goal

abbrev pub invariant-loop-i : goal.invariant-loop-i
invariant-loop-i g l = (without_rest l.out.items (hex_bytes (drop l.i l.name)) ≡ without_rest l.fn.out.items (hex_bytes l.name)) × (l.i ≤ length l.name)

abbrev pub decreases-loop-i : goal.decreases-loop-i
decreases-loop-i g l = length l.name - l.i
