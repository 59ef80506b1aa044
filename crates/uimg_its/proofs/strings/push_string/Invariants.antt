use Rattle.std.proofs.Common.{◌≡◌, ◌-◌, ◌≤◌, ◌++◌, length, drop}
use Rattle.uimg_its.specs.Strings.{string_bytes}
use Rattle.uimg_its.proofs.strings.push_string.Given as goal

abbrev pub invariant-loop-i : goal.invariant-loop-i
invariant-loop-i g l = (l.i ≤ length l.text) × (l.out.items ++ string_bytes 0 (drop l.i l.text) ≡ l.fn.out.items ++ string_bytes 0 l.text)

abbrev pub decreases-loop-i : goal.decreases-loop-i
decreases-loop-i g l = length l.text - l.i
