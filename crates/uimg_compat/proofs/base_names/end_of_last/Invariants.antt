use Rattle.std.proofs.Common.{◌≡◌, ◌-◌, ◌+◌, ◌≤◌, ◌==◌, not, length, take}
use Rattle.std.specs.List.{suffix_len}
use Rattle.uimg_compat.proofs.base_names.end_of_last.Given as goal

-- no byte from the end on is this one
abbrev pub invariant-loop-end : goal.invariant-loop-end
invariant-loop-end l = (l.end ≤ length l.text)
    × (suffix_len (λ it. not (it == l.byte)) (take l.end l.text) + (length l.text - l.end) ≡ suffix_len (λ it. not (it == l.byte)) l.text)

abbrev pub decreases-loop-end : goal.decreases-loop-end
decreases-loop-end l = l.end
