use Rattle.std.proofs.Common.{◌≡◌, ◌-◌, ◌+◌, ◌≤◌, length, drop}
use Rattle.std.specs.List.{prefix_len}
use Rattle.uimg_compat.specs.Getopt.{continues}
use Rattle.uimg_compat.proofs.getopt.first_letter.Given as goal

-- the bytes that continue the first one, so far and from here on, are all of them
abbrev pub invariant-loop-length : goal.invariant-loop-length
invariant-loop-length l = (1 ≤ l.length) × (l.length + prefix_len continues (drop l.length l.bytes) ≡ 1 + prefix_len continues (drop 1 l.bytes))

abbrev pub decreases-loop-length : goal.decreases-loop-length
decreases-loop-length l = length l.bytes - l.length
